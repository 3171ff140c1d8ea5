use Rattle.std.proofs.Common.{◌≡◌, ◌&&◌, ltb, drop}
use Rattle.definitions.specs.Words.{all_below}
use Rattle.byte_helpers.proofs.all_below.Given as goal

abbrev pub invariant-loop-x : goal.invariant-loop-x
invariant-loop-x l = all_below l.bound l.s ≡ (ltb l.top l.bound && all_below l.bound (drop l.x-index l.s))
