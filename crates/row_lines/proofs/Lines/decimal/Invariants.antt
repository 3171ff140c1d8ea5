use Rattle.std.proofs.Common.{take}
use Rattle.std.specs.Fmt.{decimal}
use Rattle.row_lines.specs.Writing.{Adds}
use Rattle.row_lines.proofs.Lines.decimal.Given as goal

abbrev pub invariant-loop-digit : goal.invariant-loop-digit
invariant-loop-digit l = Adds l.initial.self (take l.digit-index (decimal l.n)) l.self
