use Rattle.std.proofs.Common.{◌≡◌, ℕ, ◌<◌}
use Rattle.definitions.specs.Words.{at}
use Rattle.syndrome.specs.Columns.{column}
use Rattle.opening.specs.Viewed.{code}
use Rattle.opening.proofs.Code.column_of.Given as goal

abbrev pub invariant-loop-i : goal.invariant-loop-i
invariant-loop-i g l = (j : ℕ) → j < l.i → at l.entry-items j ≡ column (code l.self) j l.cell
