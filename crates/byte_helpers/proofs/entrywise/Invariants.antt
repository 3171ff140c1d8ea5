use Rattle.std.proofs.Common.{◌≡◌, ℕ, ◌<◌, length}
use Rattle.definitions.specs.Words.{at}
use Rattle.byte_helpers.proofs.entrywise.Given as goal

abbrev pub invariant-loop-i : goal.invariant-loop-i
invariant-loop-i g l = (length l.x ≡ g.row.N) × ((j : ℕ) → j < l.i → goal.F-post g l.f (at l.a j) (at l.b j) (at l.x j))
