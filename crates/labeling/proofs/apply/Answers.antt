use Rattle.std.proofs.Common.{arith}
use Rattle.std.proofs.lemmas.Grind.{common_steps}
use Rattle.word_laws.proofs.Cells.{at_map}
use Rattle.labeling.proofs.Applying.{same_length, all_stored}
use Rattle.labeling.proofs.apply.Goals as goal

pub loop-i-preserved : goal.loop-i-preserved
loop-i-preserved g c k h =
    let long = same_length c.args.table.now c.args.input.now _ c.in_ok-check.ensures in
    let cell = at_map (g.S.Scale.turned c.args.table.now) c.args.input.now c.loop-i.i (omega (arith, long)) in
    grind (arith, common_steps, c.loop-i.invariant k, cell)

pub returns : goal.returns
returns g c = all_stored (g.S.Scale.turned c.args.table.now) c.args.table.now c.args.input.now c.args.out.now c.loop-i.out c.in_ok-check.ensures
    (omega arith)
    (λ k h. c.loop-i.invariant k (omega arith))
