use Rattle.row_lines.proofs.Putting.{adds_then}
use Rattle.row_lines.proofs.Lines.refused_image.Goals as goal

pub returns : goal.returns
returns c = adds_then (adds_then c.text.ensures c.refusal.ensures) c.end.ensures
