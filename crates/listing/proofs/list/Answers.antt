use Rattle.std.proofs.Common.{arith}
use Rattle.listing.proofs.AllLines.{listed}
use Rattle.listing.proofs.list.Goals as goal

pub returns-clause-result : goal.returns-clause-result
returns-clause-result c = listed c.args.image.now c.args.out.now (omega arith) _ _ c.put_first.ensures.lines
