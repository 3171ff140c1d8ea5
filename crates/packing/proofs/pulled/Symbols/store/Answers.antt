use Rattle.std.proofs.Common.{arith, ext_get_or, length}
use Rattle.std.proofs.lemmas.Grind.{common_steps}
use Rattle.packing.proofs.Pulling.{Placed, byte_made, byte_next, next_placed, made_long}
use Rattle.packing.proofs.pulled.Symbols.store.Goals as goal

pub loop-byte-preserved : goal.loop-byte-preserved
loop-byte-preserved c =
    let m = c.args.self.now in
    let x = c.pull-full.result in
    let e = c.pull-full.ensures in
    let placed : Placed m c.loop-byte.byte-index x = rw e.first c.loop-byte.invariant.placed in
    let made = byte_made m x e.pulling c.loop-byte.byte-index placed e.full (length c.args.out.now) in
    record {
      stored = λ k h. grind (arith, common_steps, c.loop-byte.invariant.stored k, made);
      pulled = rw c.saturating_sub.ensures (byte_next m x e.pulling c.loop-byte.byte-index placed e.full);
      placed = rw c.saturating_sub.ensures (next_placed m x e.pulling c.loop-byte.byte-index placed e.full);
    }

pub returns : goal.returns
returns c =
    let long = made_long c.args.self.now (length c.args.out.now) in
    ext_get_or 0 _ _ (omega (arith, long)) (λ k h. c.loop-byte.invariant.stored k (omega arith))
