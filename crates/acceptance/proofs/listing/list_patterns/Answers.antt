use Rattle.std.proofs.Common.{◌+◌, sym, arith}
use Rattle.opening.specs.Viewed.{code}
use Rattle.acceptance.proofs.Storing.{store_none, store_as, store_both, length-stored}
use Rattle.acceptance.proofs.Weights.{lighter_none, lighter_more, lighter_all, room}
use Rattle.acceptance.proofs.listing.list_patterns.Goals as goal

pub loop-w-init : goal.loop-w-init
loop-w-init c = store_none _ _ (lighter_none (code c.args.columns.now.code))

pub choose_cell-requires-clause-room : goal.choose_cell-requires-clause-room
choose_cell-requires-clause-room c = room (code c.args.columns.now.code) _ _ _ _ (omega arith) c.requires (length-stored _ _ _ c.loop-w.invariant)

pub loop-w-preserved : goal.loop-w-preserved
loop-w-preserved c =
    store_both _ _ _ _ _ _ (lighter_more (code c.args.columns.now.code) c.loop-w.w) c.loop-w.invariant c.choose_cell.ensures

pub returns-2 : goal.returns-2
returns-2 c =
    let p = code c.args.columns.now.code in
    store_as _ _ _ _ (sym (lighter_all p (c.loop-w.w + 1) (omega arith)))
    (store_both _ _ _ _ _ _ (lighter_more p c.loop-w.w) c.loop-w.invariant c.choose_cell.ensures)
