use Rattle.golay.proofs.Walks.{one_seen}
use Rattle.golay.proofs.is_above.Goals as goal

pub loop-left-preserved : goal.loop-left-preserved
loop-left-preserved c = one_seen _ _ _ _ _ c.loop-left.invariant c.take_last.ensures c.if-word-take_last-eq0.false
