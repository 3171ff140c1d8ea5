use Rattle.std.proofs.Common.{◌≡◌, ℕ, ◌<◌, map}
use Rattle.definitions.specs.Words.{at}
use Rattle.labeling.proofs.apply.Given as goal

abbrev pub invariant-loop-i : goal.invariant-loop-i
invariant-loop-i g l = (k : ℕ) → k < l.i → at l.out k ≡ at (map (g.S.Scale.turned l.table) l.input) k
