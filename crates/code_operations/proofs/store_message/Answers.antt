use Rattle.std.proofs.Common.{◌≡◌, ℕ, ◌+◌, ◌-◌, ◌/◌, arith, ext_get_or, subst}
use Rattle.std.proofs.lemmas.Grind.{common_steps}
use Rattle.definitions.specs.Words.{at}
use Rattle.definitions.specs.Codes.{data_cells}
use Rattle.definitions.specs.Messages.{message}
use Rattle.code_theorems.proofs.Messages.{message-long, message_front, message_check}
use Rattle.opening.specs.Viewed.{code}
use Rattle.code_operations.proofs.store_message.Goals as goal
use Rattle.code_operations.proofs.store_message.Goals.{then-w-i, else-w-i}

pub loop-i-preserved : goal.loop-i-preserved
loop-i-preserved c k h =
    let p = code c.args.code.now in
    let x = c.args.word.now in
    elim c.if-w-i.branch [
      | then-w-i w ↦
          let e : data_cells p + (c.loop-i.i - data_cells p) ≡ c.loop-i.i = omega arith in
          let s : at (message p x) c.loop-i.i ≡ at x c.loop-i.i / p.M =
          subst (λ (u : ℕ). at (message p x) u ≡ at x u / p.M) e
          (message_check p (omega arith) (omega arith) x c.requires.0 (c.loop-i.i - data_cells p) (omega arith)) in
          grind (arith, common_steps, c.loop-i.invariant k, s)
      | else-w-i w ↦
          grind (
            arith,
            common_steps,
            c.loop-i.invariant k,
            message_front p (omega arith) (omega arith) x c.requires.0 c.loop-i.i (omega arith),
          )
    ]

pub returns : goal.returns
returns c =
    let long = message-long (code c.args.code.now) (omega arith) (omega arith) c.args.word.now c.requires.0 in
    ext_get_or 0 _ _ (omega (arith, long)) (λ k h. c.loop-i.invariant k (omega arith))
