use Rattle.golay.proofs.Walks.{Lowered}
use Rattle.golay.proofs.store_decoded.Given as goal

abbrev pub invariant-loop-left : goal.invariant-loop-left
invariant-loop-left l = Lowered l.word l.pattern l.out l.left

abbrev pub decreases-loop-left : goal.decreases-loop-left
decreases-loop-left l = l.left
