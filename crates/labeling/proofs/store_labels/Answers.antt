use Rattle.std.proofs.Common.{arith, length, ext_get_or}
use Rattle.std.proofs.lemmas.Grind.{common_steps}
use Rattle.labeling_theorems.proofs.MadeTables.{made-length, made_at}
use Rattle.labeling.specs.Labelings.{labeling_number}
use Rattle.labeling.proofs.store_labels.Goals as goal

pub loop-s-preserved : goal.loop-s-preserved
loop-s-preserved c k h =
    grind (arith, common_steps, c.loop-s.invariant k, made_at (labeling_number c.args.labeling) (length c.args.table.now) c.loop-s.s)

pub returns : goal.returns
returns c =
    let long = made-length (labeling_number c.args.labeling) (length c.args.table.now) in
    ext_get_or 0 _ _ (omega (arith, long)) (λ k h. c.loop-s.invariant k (omega arith))
