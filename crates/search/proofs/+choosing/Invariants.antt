-- The measure is twice the choices left, one less once the cell is chosen. Each loop has passed a part in which nothing was found:
-- what it seeks is to be sought in the rest.
use Rattle.std.proofs.Common.{◌≡◌, ◌+◌, ◌*◌, ◌-◌, ◌≤◌, length}
use Rattle.candidate_patterns.specs.Candidates.{added, Chosen, Remains}
use Rattle.opening.specs.Viewed.{code}
use Rattle.search.specs.Search.{cells_from, magnitudes_from, seek}
use Rattle.candidate_patterns.specs.Candidates.{test_for}
use Rattle.search.proofs.+choosing.Given as goal

abbrev pub decreases-choose_cell : goal.decreases-choose_cell
decreases-choose_cell l = 2 * l.k.left

abbrev pub decreases-choose_magnitude : goal.decreases-choose_magnitude
decreases-choose_magnitude l = 2 * l.k.left - 1

abbrev pub invariant-choose_cell-loop-cell : goal.invariant-choose_cell-loop-cell
invariant-choose_cell-loop-cell l = record {
  chosen : Chosen l.k.risen l.k.left l.cell;
  room : l.tried + length (cells_from (code l.a.code) l.k.risen l.k.left l.cell) ≤ 4096;
  same : seek (test_for l.a) (cells_from (code l.a.code) l.k.risen l.k.left l.k.cell) l.k.tried
      ≡ seek (test_for l.a) (cells_from (code l.a.code) l.k.risen l.k.left l.cell) l.tried;
}

abbrev pub invariant-choose_magnitude-loop-mag : goal.invariant-choose_magnitude-loop-mag
invariant-choose_magnitude-loop-mag l = record {
  remains : Remains (code l.a.code) l.a.s (added l.k.risen l.k.cell l.mag) l.next;
  room : l.tried + length (magnitudes_from (code l.a.code) l.k.risen l.k.left l.k.cell l.mag) ≤ 4096;
  same : seek (test_for l.a) (magnitudes_from (code l.a.code) l.k.risen l.k.left l.k.cell 0) l.k.tried
      ≡ seek (test_for l.a) (magnitudes_from (code l.a.code) l.k.risen l.k.left l.k.cell l.mag) l.tried;
}
