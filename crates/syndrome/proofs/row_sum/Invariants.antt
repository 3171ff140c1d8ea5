use Rattle.std.proofs.Common.{◌≡◌, ◌+◌, ◌*◌, ◌≤◌}
use Rattle.definitions.specs.Words.{at, sum_to}
use Rattle.syndrome.proofs.row_sum.Given as goal

abbrev pub invariant-loop-j : goal.invariant-loop-j
invariant-loop-j l = (l.sum ≤ l.j * 65025) × (l.sum ≡ sum_to l.j (λ i. at l.matrix (l.base + i) * at l.word i))
