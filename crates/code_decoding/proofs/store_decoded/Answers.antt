use Rattle.std.proofs.Common.{arith, ext_get_or}
use Rattle.std.proofs.lemmas.Grind.{common_steps}
use Rattle.code_decoding.proofs.Decoding.{subtract-at, subtract-long}
use Rattle.code_decoding.proofs.store_decoded.Goals as goal

pub loop-i-preserved : goal.loop-i-preserved
loop-i-preserved c k h =
    let e =
    subtract-at c.args.word.now c.args.k c.loop-i.i c.from.result c.magnitude_at.result (omega arith) c.from.ensures c.magnitude_at.ensures in
    grind (arith, common_steps, c.loop-i.invariant k, e)

pub returns : goal.returns
returns c =
    let long = subtract-long c.args.word.now c.args.k in
    ext_get_or 0 _ _ (omega (arith, long)) (λ i h. c.loop-i.invariant i (omega arith))
