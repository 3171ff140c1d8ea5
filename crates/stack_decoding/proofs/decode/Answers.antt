use Rattle.std.proofs.Common.{◌∙◌, ◌≤◌, ap, take, length, arith}
use lib.Seq.{length-take-le}
use Rattle.stack_opening.specs.Viewed.{planes_of}
use Rattle.stack_operations.proofs.Planes.{item_of, plane_cells}
use Rattle.stack_decoding.proofs.Decoding.{distance_is, value_most, nothing_found, magnitudes_fit, decoded_all, refused_in, given_by}
use Rattle.stack_decoding.proofs.decode.Goals as goal

pub returns-in_default : goal.returns-in_default
returns-in_default c =
    let s = c.args.stack.now in
    let j = c.loop-j.j in
    let (h, is) = item_of (planes_of s) _ c.planes-plane-items.ensures j c.plane-item.result c.loop-j-test.true c.plane-item.is in
    refused_in s c.args.word.now c.args.out.now j
    (c.loop-j.invariant.done
    ∙ nothing_found s.q (planes_of s) j c.plane-item.result h is (take s.n c.loop-j.levels) c.plane_pattern.result c.plane_pattern.ensures c.in_default.is)

pub lower-requires-clause-modulus : goal.lower-requires-clause-modulus
lower-requires-clause-modulus c =
    let s = c.args.stack.now in
    let p = c.plane-item.result in
    let (h, is) = item_of (planes_of s) _ c.planes-plane-items.ensures c.loop-j.j p c.loop-j-test.true c.plane-item.is in
    (omega (arith, value_most s c.loop-j.j p h is, p.low), s.size.2)

pub lower-requires-clause-magnitudes : goal.lower-requires-clause-magnitudes
lower-requires-clause-magnitudes c i l =
    let s = c.args.stack.now in
    let j = c.loop-j.j in
    let p = c.plane-item.result in
    let (h, is) = item_of (planes_of s) _ c.planes-plane-items.ensures j p c.loop-j-test.true c.plane-item.is in
    let long = length-take-le s.n c.loop-j.levels (omega (arith, c.loop-j.invariant.long)) in
    magnitudes_fit s.q (planes_of s) j p h is (take s.n c.loop-j.levels) c.plane_pattern.result c.plane_pattern.ensures c.in-Some.found c.in-Some.is
    (value_most s j p h is).0 i (omega (arith, l, plane_cells s j p h is, long))

pub returns : goal.returns
returns c =
    let s = c.args.stack.now in
    let end : length (planes_of s) ≤ c.loop-j.j = omega (arith, ap length c.planes-plane-items.ensures) in
    let e = c.loop-j.invariant.done ∙ decoded_all s.q c.loop-j.j (planes_of s) (take s.n c.loop-j.levels) end in
    rw c.copy_from_slice-2.ensures.after (given_by s c.args.word.now c.args.out.now (take s.n c.loop-j.levels) c.distance-count.result e
    (c.distance-count.ensures ∙ distance_is (take s.n c.loop-j.levels) c.args.word.now))
