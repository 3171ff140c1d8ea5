-- What falls is the choices that remain: the measure is twice their number, one less once the cell is chosen. Each loop has stored a part,
-- and the rest is what its later turns list.
use Rattle.std.proofs.Common.{◌-◌, ◌≡◌, ◌*◌, ◌<◌, length}
use Rattle.definitions.specs.Words.{EachCell}
use Rattle.opening.specs.Viewed.{code}
use Rattle.acceptance.specs.Listing.{raised_by, syndromes_from, raised_from}
use Rattle.acceptance.proofs.Storing.{Partly}
use Rattle.acceptance.proofs.listing.+choosing.Given as goal

abbrev pub decreases-choose_cell : goal.decreases-choose_cell
decreases-choose_cell l = 2 * l.left

abbrev pub decreases-choose_magnitude : goal.decreases-choose_magnitude
decreases-choose_magnitude l = 2 * l.left - 1

abbrev pub invariant-choose_cell-loop-c : goal.invariant-choose_cell-loop-c
invariant-choose_cell-loop-c l =
    let p = code l.columns.code in
    Partly (syndromes_from p l.left l.cell l.s) (syndromes_from p l.left l.c l.s) l.initial.listed l.listed

abbrev pub invariant-choose_magnitude-loop : goal.invariant-choose_magnitude-loop
invariant-choose_magnitude-loop l =
    let p = code l.columns.code in record {
      long : length l.x ≡ 16;
      small : EachCell (λ v. v < l.columns.code.m) l.x;
      risen : l.x ≡ raised_by p l.cell l.counter l.s;
      part : Partly (raised_from p l.left l.cell l.s 0) (raised_from p l.left l.cell l.s l.counter) l.initial.listed l.listed;
    }
