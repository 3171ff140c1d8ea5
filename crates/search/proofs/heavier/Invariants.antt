use Rattle.std.proofs.Common.{◌≡◌, ◌+◌, ◌-◌, ◌≤◌}
use mathlib.Core.Option.{none}
use Rattle.opening.specs.Viewed.{code}
use Rattle.search.specs.Search.{seek}
use Rattle.candidate_patterns.specs.Candidates.{test_for}
use Rattle.search.proofs.Whole.{up_to}
use Rattle.search.proofs.heavier.Given as goal

-- none of fewer than `weight` risen cells passes, and `lighter` is their number
abbrev pub invariant-loop-weight : goal.invariant-loop-weight
invariant-loop-weight l = (l.weight ≤ l.a.code.t + 1) × (seek (test_for l.a) (up_to (code l.a.code) (l.weight - 1)) 0 ≡ (none, l.lighter))
