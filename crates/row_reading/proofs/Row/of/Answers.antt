use Rattle.std.proofs.Common.{arith}
use Rattle.image.proofs.Checked.{checked_contents}
use Rattle.row_reading.proofs.Row.of.Goals as goal

pub entry_at-requires : goal.entry_at-requires
entry_at-requires c = ((checked_contents c.args.image.bytes.now c.args.image.checked).in_image c.args.k c.if-k-lt1.false (omega arith)).entry
