use Rattle.std.proofs.Common.{◌≤◌, ◌∙◌, ◌++◌, ◌∷◌, [], length, ap, arith}
use Rattle.opening.specs.Viewed.{code}
use Rattle.acceptance.proofs.Raising.{raised-zero, raised_more}
use Rattle.acceptance.proofs.Storing.{store_as, none_yet}
use Rattle.acceptance.proofs.Steps.{done}
use Rattle.acceptance.proofs.Choices.{cell_room, cell_part, cells_done, mag_room, mag_part, mags_done}
use Rattle.acceptance.proofs.listing.+choosing.Goals as goal

pub choose_cell-push-requires : goal.choose_cell-push-requires
choose_cell-push-requires t c =
    omega (arith, ap length (done (code c.args.columns.now.code) c.args.left c.args.cell c.args.s.now c.if-left-eq0.true), c.requires.room)

pub choose_cell-returns-then-left-eq0 : goal.choose_cell-returns-then-left-eq0
choose_cell-returns-then-left-eq0 t c =
    store_as _ _ _ _ (done (code c.args.columns.now.code) c.args.left c.args.cell c.args.s.now c.if-left-eq0.true)
    (c.push.ensures.items ∙ ap (λ k. c.args.listed.now.items ++ k ∷ []) c.key_of.ensures)

pub choose_cell-choose_magnitude-requires : goal.choose_cell-choose_magnitude-requires
choose_cell-choose_magnitude-requires t c =
    let one : 1 ≤ c.args.left = omega arith in (
      let h = c.decreases in omega arith,
      (
        (one, c.loop-c-test.true, c.requires.within.1, c.requires.within.2),
        cell_room (code c.args.columns.now.code) c.args.left c.loop-c.c c.args.s.now one _ _ _ c.loop-c.invariant c.loop-c-test.true _
            c.requires.room,
      ),
    )

pub choose_cell-loop-c-preserved : goal.choose_cell-loop-c-preserved
choose_cell-loop-c-preserved t c =
    cell_part (code c.args.columns.now.code) c.args.left c.loop-c.c c.args.s.now (omega arith) _ _ _ c.loop-c.invariant c.loop-c-test.true _
    c.choose_magnitude.ensures

pub choose_cell-returns : goal.choose_cell-returns
choose_cell-returns t c =
    cells_done (code c.args.columns.now.code) c.args.left c.loop-c.c c.args.s.now (omega arith) _ _ _ c.loop-c.invariant c.loop-c-test.false

pub choose_magnitude-loop-init : goal.choose_magnitude-loop-init
choose_magnitude-loop-init t c = record {
  long = c.requires.within.2;
  small = c.requires.within.3;
  risen = raised-zero _ _ _;
  part = none_yet _ _;
}

pub choose_magnitude-choose_cell-requires : goal.choose_magnitude-choose_cell-requires
choose_magnitude-choose_cell-requires t c =
    let l = c.loop in
    let p = code c.args.columns.now.code in
    let e = raised_more p c.args.cell l.counter c.args.s.now l.x _ l.invariant.risen c.raise-x.ensures.0 in (
      let h = c.decreases in omega arith,
      (
        (omega arith, c.raise-x.ensures.2, c.raise-x.ensures.1),
        mag_room p c.args.left c.args.cell l.counter c.args.s.now _ _ _ l.invariant.part c.loop-test.true _ e _ c.requires.room,
      ),
    )

pub choose_magnitude-loop-preserved : goal.choose_magnitude-loop-preserved
choose_magnitude-loop-preserved t c =
    let l = c.loop in
    let p = code c.args.columns.now.code in
    let e = raised_more p c.args.cell l.counter c.args.s.now l.x _ l.invariant.risen c.raise-x.ensures.0 in
    record {
      long = c.raise-x.ensures.2;
      small = c.raise-x.ensures.1;
      risen = e;
      part = mag_part p c.args.left c.args.cell l.counter c.args.s.now _ _ _ l.invariant.part c.loop-test.true _ e _ c.choose_cell.ensures;
    }

pub choose_magnitude-returns : goal.choose_magnitude-returns
choose_magnitude-returns t c =
    let l = c.loop in
    mags_done (code c.args.columns.now.code) c.args.left c.args.cell l.counter c.args.s.now _ _ _ l.invariant.part c.loop-test.false
