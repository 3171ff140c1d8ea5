use Rattle.std.proofs.Common.{◌+◌, ◌*◌, ◌-◌, ◌<◌}
use Rattle.acceptance.proofs.Tree.{Walk}
use Rattle.acceptance.proofs.different.slot_of.Given as goal

-- the walk has come to slot s
abbrev pub invariant-loop-s : goal.invariant-loop-s
invariant-loop-s l = (l.s < 4096 + 2 * l.n) × Walk l.keys l.slots l.key l.s l.bits

abbrev pub decreases-loop-s : goal.decreases-loop-s
decreases-loop-s l = 12288 - l.s
