use Rattle.std.proofs.Common.{arith}
use Rattle.acceptance.proofs.Tree.{walk_start, walk_on, walk_free, further}
use Rattle.acceptance.proofs.different.slot_of.Goals as goal

pub loop-s-init : goal.loop-s-init
loop-s-init c = (
  omega (arith, c.bucket-s.ensures.1),
  walk_start c.args.keys.now c.args.slots.now c.args.key _ _ c.bucket-s.ensures.0 c.bits_of-bits.ensures,
)

pub loop-s-preserved : goal.loop-s-preserved
loop-s-preserved c =
    let l = c.loop-s in
    let f = further c.requires.2 l.s c.from-j.result _ l.bits.next c.from-j.ensures (omega (arith, c.loop-s-test.true)) c.child-s.ensures in (
      f.2,
      walk_on c.args.keys.now c.args.slots.now c.args.key l.s l.bits l.invariant.1 c.from-j.result c.from-j.ensures (omega (arith, c.loop-s-test.true))
          c.if-keys-j.false _ c.child-s.ensures _ c.next_bits-bits.ensures,
    )

pub returns : goal.returns
returns c =
    let l = c.loop-s in
    walk_free c.args.keys.now c.args.slots.now c.args.key l.s l.bits l.invariant.1 c.args.n l.invariant.0 c.loop-s-test.false c.requires.2
