use Rattle.std.proofs.Common.{arith}
use Rattle.image.proofs.Checked.{checked_contents}
use Rattle.image.proofs.Image.entry_count.Goals as goal

pub bounds-self-0 : goal.bounds-self-0
bounds-self-0 c = omega (arith, (checked_contents c.args.self.now.bytes.now c.args.self.now.checked).directory)

pub returns : goal.returns
returns c = (c.from.ensures, omega (arith, (checked_contents c.args.self.now.bytes.now c.args.self.now.checked).count-high, c.from.ensures))
