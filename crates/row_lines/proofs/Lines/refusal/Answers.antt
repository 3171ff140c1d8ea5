use Rattle.row_lines.proofs.Putting.{adds_then}
use Rattle.row_lines.proofs.Lines.refusal.Goals as goal

pub returns : goal.returns
returns c = let e = c.number.ensures in rw (← e) (adds_then c.text.ensures c.decimal.ensures)
