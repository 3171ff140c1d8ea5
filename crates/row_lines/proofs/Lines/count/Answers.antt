use Rattle.row_lines.proofs.Putting.{adds_then}
use Rattle.row_lines.proofs.Lines.count.Goals as goal

pub returns : goal.returns
returns c = adds_then (adds_then (adds_then c.text.ensures c.decimal.ensures) c.text-2.ensures) c.levels.ensures
