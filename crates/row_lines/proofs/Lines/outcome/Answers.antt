use Rattle.row_lines.proofs.Putting.{adds_as}
use Rattle.row_lines.proofs.Texts.{refused-text}
use Rattle.row_lines.proofs.Lines.outcome.Goals as goal

pub returns-in-Refused : goal.returns-in-Refused
returns-in-Refused c = rw c.in-Refused.is (adds_as (refused-text c.in-Refused.why c.args.levels.now) c.refusal.ensures)
