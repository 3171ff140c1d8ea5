use Rattle.std.proofs.Common.{◌≡◌, ◌≤◌}
use Rattle.definitions.specs.Words.{at}
use Rattle.definitions.specs.Images.{entries_right, entry_numbers}
use Rattle.directory.proofs.Numbers.{left}
use Rattle.image.proofs.entries_right.Given as goal

-- what was asked of all entries is asked of those left
abbrev pub invariant-loop-k : goal.invariant-loop-k
invariant-loop-k l = (1 ≤ l.k) × (entries_right l.image (entry_numbers l.image) ≡ entries_right l.image (left l.k (at l.image 0)))
