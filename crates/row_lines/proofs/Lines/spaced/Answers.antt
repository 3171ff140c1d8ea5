use Rattle.row_lines.proofs.Putting.{adds_then}
use Rattle.row_lines.proofs.Lines.spaced.Goals as goal

pub returns : goal.returns
returns c = adds_then c.byte.ensures c.decimal.ensures
