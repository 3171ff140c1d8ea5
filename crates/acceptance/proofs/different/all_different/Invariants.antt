use Rattle.std.proofs.Common.{◌≡◌, ℕ, ◌<◌, length}
use Rattle.acceptance.specs.Tree.{Tree}
use Rattle.acceptance.proofs.Distinct.{New}
use Rattle.acceptance.proofs.different.all_different.Given as goal

-- the first i keys stand in the tree, and these are all different
abbrev pub invariant-loop-i : goal.invariant-loop-i
invariant-loop-i l = record {
  long : length l.slots ≡ 12288;
  tree : Tree l.keys l.slots l.i;
  new : (k : ℕ) → k < l.i → New l.keys k;
}
