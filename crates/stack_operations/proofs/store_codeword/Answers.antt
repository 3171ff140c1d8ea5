use Rattle.std.proofs.Common.{◌-◌, arith, ext_get_or}
use Rattle.std.proofs.lemmas.Grind.{common_steps}
use Rattle.definitions.specs.Words.{at}
use Rattle.stack_opening.specs.Viewed.{planes_of}
use Rattle.stack_operations.specs.Parts.{level_sum}
use Rattle.stack_operations.proofs.Encoding.{fits_message, long_word, level_is, level_small, sum_next}
use Rattle.stack_operations.proofs.Planes.{plane_cells}
use Rattle.stack_operations.proofs.store_codeword.Goals as goal

pub add_digits-requires-clause-small : goal.add_digits-requires-clause-small
add_digits-requires-clause-small c i h =
    let s = c.args.stack.now in
    let m = fits_message s c.args.message.now c.requires.long c.requires.fits in
    let p = c.plane-item.result in
    let j = c.loop-plane.plane-index in
    let n = plane_cells s j p in
    let total = level_sum i (planes_of s) c.args.message.now in
    grind (
      arith,
      common_steps,
      n,
      c.loop-plane.invariant.done i,
      level_is s c.args.message.now m i,
      level_small s c.args.message.now m i,
      sum_next i (at c.loop-plane.out i) total (s.n - p.code.r) j (planes_of s) p c.loop-plane.rest.now,
    )

pub returns : goal.returns
returns c =
    let s = c.args.stack.now in
    let m = fits_message s c.args.message.now c.requires.long c.requires.fits in
    let long = long_word s c.args.message.now m in
    ext_get_or 0 _ _ (omega (arith, long, c.loop-plane.invariant.long))
    (λ k h. grind (arith, common_steps, c.loop-plane.invariant.long, c.loop-plane.invariant.done k, level_is s c.args.message.now m k))
