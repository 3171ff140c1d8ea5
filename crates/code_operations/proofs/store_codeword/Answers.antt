use Rattle.std.proofs.Common.{ℕ, ◌+◌, ◌*◌, ◌<◌, arith, ext_get_or, ap₂, sym, subst, ◌∙◌}
use Rattle.std.proofs.lemmas.Grind.{common_steps}
use Rattle.code_theorems.proofs.Messages.{encode-long}
use Rattle.opening.specs.Viewed.{code}
use Rattle.code_operations.proofs.Encoded.{encoded_before, encoded_from, encoded_below}
use Rattle.code_operations.proofs.store_codeword.Goals as goal
use Rattle.code_operations.proofs.store_codeword.Goals.{then-i-w, else-i-w}

pub overflow_cast-cell : goal.overflow_cast-cell
overflow_cast-cell c =
    let p = code c.args.code.now in
    let s = c.args.message.now in
    let e = encoded_from p s c.loop-i.i (omega arith) (omega arith) c.requires.long c.if-i-w.false (omega arith) in
    let h = encoded_below p s c.loop-i.i (omega arith) (omega arith) c.requires.long c.requires.fits (omega arith) in
    let g = subst (λ (v : ℕ). v < p.q) (e ∙ ap₂ (λ (a b : ℕ). p.M * a + b) (sym c.from.ensures) (sym c.filling.ensures.0)) h in
    omega arith

pub loop-i-preserved : goal.loop-i-preserved
loop-i-preserved c k h =
    elim c.if-i-w.branch [
      | then-i-w w ↦ grind (arith, common_steps, c.loop-i.invariant k, encoded_before (code c.args.code.now) c.args.message.now c.loop-i.i)
      | else-i-w w ↦ grind (arith, common_steps, c.loop-i.invariant k, encoded_from (code c.args.code.now) c.args.message.now c.loop-i.i)
    ]

pub returns : goal.returns
returns c =
    let long = encode-long (code c.args.code.now) (omega arith) (omega arith) c.args.message.now c.requires.long in
    ext_get_or 0 _ _ (omega (arith, long)) (λ k h. c.loop-i.invariant k (omega arith))
