use Rattle.std.proofs.Common.{refl, length-set, arith}
use Rattle.acceptance.proofs.Tree.{tree_none, tree_more}
use Rattle.acceptance.proofs.Distinct.{clash, new_more, all_new}
use Rattle.acceptance.proofs.different.all_different.Goals as goal

pub loop-i-init : goal.loop-i-init
loop-i-init c = record { long = refl; tree = tree_none _ 12288; new = λ k h. absurd (omega arith) }

pub returns-then-slots-s-ne0 : goal.returns-then-slots-s-ne0
returns-then-slots-s-ne0 c = clash c.args.keys.now c.loop-i.i c.loop-i-test.true (c.slot_of-s.ensures.found c.if-slots-s-ne0.true)

pub loop-i-preserved : goal.loop-i-preserved
loop-i-preserved c =
    let l = c.loop-i in record {
      long = simp length-set l.invariant.long;
      tree = tree_more c.args.keys.now l.slots l.i l.invariant.tree c.slot_of-s.result _ refl (omega (arith, c.slot_of-s.ensures.within, l.invariant.long))
          c.if-slots-s-ne0.false c.slot_of-s.ensures;
      new = new_more c.args.keys.now l.i (c.slot_of-s.ensures.free c.if-slots-s-ne0.false) l.invariant.new;
    }

pub returns : goal.returns
returns c = all_new c.args.keys.now c.loop-i.i c.loop-i-test.false c.loop-i.invariant.new
