use Rattle.std.proofs.Common.{◌∙◌, arith, ext_get_or}
use Rattle.stack_decoding.proofs.Decoding.{lowered_long, lowered_at}
use Rattle.stack_decoding.proofs.lower.Goals as goal

pub returns : goal.returns
returns c =
    let x = c.args.levels.now in
    ext_get_or 0 _ _ (omega (arith, lowered_long c.args.q c.args.w x c.args.k, c.loop-i.invariant.long))
    (λ j h. c.loop-i.invariant.done j (omega arith) ∙ lowered_at c.args.q c.args.w x c.args.k j (omega arith))
