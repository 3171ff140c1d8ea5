use Rattle.std.proofs.Common.{◌≡◌, ℕ, ◌+◌, ◌*◌, ◌-◌, ◌≤◌, ◌<◌, refl, sym, ap, ◌∙◌, arith}
use mathlib.Core.Option.{none}
use Rattle.std.specs.ControlFlow.{control_flow_from_branch}
use Rattle.definitions.specs.Words.{at}
use Rattle.candidate_patterns.specs.Candidates.{added, test_for}
use Rattle.candidate_patterns.proofs.Choices.{chosen-next}
use Rattle.opening.specs.Viewed.{code}
use Rattle.search.specs.Search.{Reached, cells_from, magnitudes_from, seek, sought_as}
use Rattle.search.proofs.Order.{cell_more, cell_none, mag_none, room-first, room_next, seek_none, seek_skip}
use Rattle.search.proofs.Steps.{part_hit}
use Rattle.search.proofs.Remaining.{remains_start, columns_below, with_magnitude}
use Rattle.search.proofs.Ruled.{tried_as, cell_ruled, passed_over, went_on}
use Rattle.search.proofs.+choosing.Goals as goal
use Rattle.search.proofs.+choosing.Goals.{choose_cell-then-cannot_end_at, choose_cell-else-cannot_end_at+in_ok-tried}
use Rattle.search.proofs.+choosing.Goals.{choose_magnitude-then-cannot_end_from, choose_magnitude-else-cannot_end_from+in_ok-tried}

pub choose_cell-choose_magnitude-requires : goal.choose_cell-choose_magnitude-requires
choose_cell-choose_magnitude-requires t c =
    let k = c.args.k in
    let l = c.loop-cell in
    let some : 1 ≤ k.left = omega arith in
    let h = c.loop-cell-test.true in
    let reached : Reached c.args.a.now (record { risen = k.risen; left = k.left; cell = l.cell; tried = l.tried }) c.args.rest.now =
    record { chosen = l.invariant.chosen; cells = omega arith; remains = c.requires.reached.remains } in
    let falls : 2 * k.left - 1 < t = let m = c.decreases in omega arith in
    let split = cell_more (code c.args.a.now.code) k.risen k.left l.cell some h l.invariant.chosen in
    (falls, ((reached, some, h), (room-first _ _ _ l.tried 4096 split l.invariant.room, c.requires.table)))

pub choose_cell-returns-in_err-tried : goal.choose_cell-returns-in_err-tried
choose_cell-returns-in_err-tried t c =
    let a = c.args.a.now in
    let k = c.args.k in
    let l = c.loop-cell in
    let given = c.branch-tried.ensures ∙ ap control_flow_from_branch c.in_err-tried.is in
    ap (sought_as a.code.n) (c.from_residual.ensures ∙ sym given)
    ∙ part_hit a.code.n (test_for a) _ _ _ l.tried (cell_more (code a.code) k.risen k.left l.cell (omega arith) c.loop-cell-test.true l.invariant.chosen)
    _ _ given c.choose_magnitude.ensures
    ∙ sym l.invariant.same

pub choose_cell-loop-cell-preserved : goal.choose_cell-loop-cell-preserved
choose_cell-loop-cell-preserved t c =
    let a = c.args.a.now in
    let k = c.args.k in
    let l = c.loop-cell in
    let some : 1 ≤ k.left = omega arith in
    let h = c.loop-cell-test.true in
    let chosen = l.invariant.chosen in
    let gave : (none, c.if-cannot_end_at.tried) ≡ seek (test_for a) (magnitudes_from (code a.code) k.risen k.left l.cell 0) l.tried =
    elim c.if-cannot_end_at.branch [
      | choose_cell-then-cannot_end_at w ↦
          let (one, nothing) = c.cannot_end_at.ensures w.if-cannot_end_at.true in
          tried_as _ _ w.tried-is ∙ cell_ruled a k.risen c.args.rest.now k.left one c.requires.reached.remains l.cell chosen h nothing l.tried
      | choose_cell-else-cannot_end_at+in_ok-tried w ↦
          went_on a.code.n _ _ _ _ (w.branch-tried.ensures ∙ ap control_flow_from_branch w.in_ok-tried.is) w.tried-is w.choose_magnitude.ensures
    ] in
    let split = cell_more (code a.code) k.risen k.left l.cell some h chosen in
    record {
      chosen = chosen-next k.risen k.left l.cell chosen;
      room = room_next (test_for a) _ _ _ l.tried _ 4096 split l.invariant.room gave;
      same = l.invariant.same ∙ seek_skip (test_for a) _ _ _ l.tried split _ gave;
    }

pub choose_cell-returns : goal.choose_cell-returns
choose_cell-returns t c =
    let a = c.args.a.now in
    let k = c.args.k in
    let l = c.loop-cell in
    seek_none (test_for a) _ _ (cell_none (code a.code) k.risen k.left l.cell (omega arith) c.loop-cell-test.false) ∙ sym l.invariant.same

pub choose_magnitude-loop-mag-init : goal.choose_magnitude-loop-mag-init
choose_magnitude-loop-mag-init t c =
    let a = c.args.a.now in
    let k = c.args.k in
    let (reached, some, cell) = c.requires.reached in
    record {
      remains = remains_start (code a.code) a.s k.risen k.left k.cell reached.chosen some c.args.rest.now reached.remains;
      room = c.requires.room;
      same = refl;
    }

pub choose_magnitude-lowered-y-requires : goal.choose_magnitude-lowered-y-requires
choose_magnitude-lowered-y-requires t c =
    let p = c.args.a.now.code in
    let small : (i : ℕ) → at c.column_of-column.result i < p.m =
    λ i. omega (arith, c.column_of-column.ensures.entry i, columns_below p c.args.k.cell i) in
    (omega arith, c.loop-mag.invariant.remains.below, small)

pub choose_magnitude-choose_cell-requires : goal.choose_magnitude-choose_cell-requires
choose_magnitude-choose_cell-requires t c =
    let a = c.args.a.now in
    let k = c.args.k in
    let l = c.loop-mag in
    let (after, split) = with_magnitude a k c.args.rest.now c.requires.reached l.mag c.loop-mag-test.true l.tried _ l.next _
    c.column_of-column.ensures.entry c.lowered-y.ensures l.invariant.remains in
    let falls : 2 * (k.left - 1) < t = let m = c.decreases in omega arith in
    (falls, (after, (room-first _ _ _ l.tried 4096 split l.invariant.room, c.requires.table)))

pub choose_magnitude-returns-in_err-tried : goal.choose_magnitude-returns-in_err-tried
choose_magnitude-returns-in_err-tried t c =
    let a = c.args.a.now in
    let k = c.args.k in
    let l = c.loop-mag in
    let (after, split) = with_magnitude a k c.args.rest.now c.requires.reached l.mag c.loop-mag-test.true l.tried _ l.next _
    c.column_of-column.ensures.entry c.lowered-y.ensures l.invariant.remains in
    let given = c.branch-tried.ensures ∙ ap control_flow_from_branch c.in_err-tried.is in
    ap (sought_as a.code.n) (c.from_residual.ensures ∙ sym given) ∙ part_hit a.code.n (test_for a) _ _ _ l.tried split _ _ given c.choose_cell.ensures
    ∙ sym l.invariant.same

pub choose_magnitude-loop-mag-preserved : goal.choose_magnitude-loop-mag-preserved
choose_magnitude-loop-mag-preserved t c =
    let a = c.args.a.now in
    let k = c.args.k in
    let l = c.loop-mag in
    let (after, split) = with_magnitude a k c.args.rest.now c.requires.reached l.mag c.loop-mag-test.true l.tried _ l.next _
    c.column_of-column.ensures.entry c.lowered-y.ensures l.invariant.remains in
    let gave : (none, c.if-cannot_end_from.tried)
    ≡ seek (test_for a) (cells_from (code a.code) (added k.risen k.cell (l.mag + 1)) (k.left - 1) (k.cell + 1)) l.tried =
    elim c.if-cannot_end_from.branch [
      | choose_magnitude-then-cannot_end_from w ↦
          passed_over a _ _ _ after c.requires.table (c.cannot_end_from.ensures w.if-cannot_end_from.true) _ _ c.times-all.ensures.0 w.tried-is
      | choose_magnitude-else-cannot_end_from+in_ok-tried w ↦
          went_on a.code.n _ _ _ _ (w.branch-tried.ensures ∙ ap control_flow_from_branch w.in_ok-tried.is) w.tried-is w.choose_cell.ensures
    ] in
    record {
      remains = after.remains;
      room = room_next (test_for a) _ _ _ l.tried _ 4096 split l.invariant.room gave;
      same = l.invariant.same ∙ seek_skip (test_for a) _ _ _ l.tried split _ gave;
    }

pub choose_magnitude-returns : goal.choose_magnitude-returns
choose_magnitude-returns t c =
    let l = c.loop-mag in
    seek_none (test_for c.args.a.now) _ _ (mag_none (code c.args.a.now.code) c.args.k.risen c.args.k.left c.args.k.cell l.mag (omega arith))
    ∙ sym l.invariant.same
