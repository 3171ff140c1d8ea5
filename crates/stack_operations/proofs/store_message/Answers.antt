use Rattle.std.proofs.Common.{◌∙◌, ◌≤◌, ap, take, length, arith}
use Rattle.std.proofs.lemmas.Grind.{common_steps}
use Rattle.definitions.specs.StackMessages.{stack_message}
use Rattle.stack_opening.specs.Viewed.{planes_of}
use Rattle.stack_operations.proofs.Planes.{item_of, plane_cells, room_next, done_next, done_last, parts_are, from_stack}
use Rattle.stack_operations.proofs.store_message.Goals as goal

pub loop-plane-preserved : goal.loop-plane-preserved
loop-plane-preserved c =
    let i = c.loop-plane.invariant in
    let s = c.args.stack.now in
    let w = c.args.word.now in
    let ps = planes_of s in
    let j = c.loop-plane.plane-index in
    let p = c.plane-item.result in
    let (h, is) = item_of ps _ c.planes-plane-items.ensures j p c.loop-plane-test.true c.plane-item.is in
    let e = plane_cells s j p h is in
    record {
      long = grind (arith, common_steps);
      room = room_next s.n w ps c.loop-plane.at c.loop-plane.out j p h is e _ i.room;
      done =
          done_next s.n w ps c.loop-plane.at c.loop-plane.out j p h is e c.copy_from_slice.new.self _ i.done
          (omega (arith, i.room, i.long)) c.requires.long
          (c.copy_from_slice.ensures.after ∙ ap (take _) (c.deref.ensures.0 ∙ c.plane_digits.ensures.digits));
    }

pub returns : goal.returns
unfolding stack_message
returns c =
    let i = c.loop-plane.invariant in
    let s = c.args.stack.now in
    let ps = planes_of s in
    let all : length ps ≤ c.loop-plane.plane-index = omega (arith, ap length c.planes-plane-items.ensures) in
    done_last s.n c.args.word.now ps c.loop-plane.at c.loop-plane.out c.loop-plane.plane-index all (i.room ∙ (omega (arith, i.long))) i.done
    ∙ parts_are s.n 1 c.args.word.now ps (from_stack s)
