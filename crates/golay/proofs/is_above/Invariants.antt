use Rattle.golay.proofs.Walks.{NoneAtZero}
use Rattle.golay.proofs.is_above.Given as goal

abbrev pub invariant-loop-left : goal.invariant-loop-left
invariant-loop-left l = NoneAtZero l.word l.pattern l.left

abbrev pub decreases-loop-left : goal.decreases-loop-left
decreases-loop-left l = l.left
