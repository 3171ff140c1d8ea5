use Rattle.std.proofs.Common.{arith}
use Rattle.answers.specs.Answering.{outcome_as}
use Rattle.row_lines.proofs.Putting.{adds_then}
use Rattle.row_lines.proofs.Texts.{decimal-short, outcome-short}
use Rattle.row_lines.proofs.Lines.row.Goals as goal

pub end-requires : goal.end-requires
end-requires c = omega (
  arith,
  decimal-short c.args.entry,
  outcome-short (outcome_as c.args.outcome) c.args.levels.now c.requires.small.1,
  c.requires.room,
)

pub returns : goal.returns
returns c = adds_then (adds_then (adds_then c.text.ensures c.decimal.ensures) c.outcome.ensures) c.end.ensures
