use Rattle.std.proofs.Common.{◌≡◌, length, arith}
use Rattle.golay.proofs.Walks.{can_lower, one_lowered}
use Rattle.golay.proofs.store_decoded.Goals as goal

pub loop-left-preserved : goal.loop-left-preserved
loop-left-preserved c =
    let long : length c.args.word.now ≡ 23 = omega arith in
    let w = c.take_last-cell.ensures in
    one_lowered _ _ _ _ _ _ c.loop-left.invariant w (can_lower _ _ _ _ _ _ long c.requires.under c.loop-left.invariant w)
