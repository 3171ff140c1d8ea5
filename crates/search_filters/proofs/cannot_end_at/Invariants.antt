use Rattle.std.proofs.Common.{ℕ, ◌≤◌}
use Rattle.opening.specs.Viewed.{code}
use Rattle.search_filters.specs.Filters.{Misses}
use Rattle.search_filters.proofs.cannot_end_at.Given as goal

abbrev pub invariant-loop-mag : goal.invariant-loop-mag
invariant-loop-mag l = (g : ℕ) → 1 ≤ g → g ≤ l.mag → Misses (code l.code) l.cell g l.rest
