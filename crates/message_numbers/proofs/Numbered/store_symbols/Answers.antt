use Rattle.std.proofs.Common.{ℕ, ◌/◌, ◌%◌, ap, ap₂, sym, ◌∙◌, arith, ext_get_or}
use Rattle.std.proofs.lemmas.Grind.{common_steps}
use Rattle.opening.specs.Viewed.{code}
use Rattle.code_theorems.proofs.MessageNumbers.{number-long, number_at}
use Rattle.message_numbers.proofs.Symbols.{next_rest}
use Rattle.message_numbers.proofs.Numbered.store_symbols.Goals as goal

pub loop-i-preserved : goal.loop-i-preserved
loop-i-preserved c =
    let p = code c.args.self.now.code in
    let e = c.radix_at-radix.ensures.0 in
    let rest = c.loop-i.invariant.rest in
    let is = ap₂ ◌%◌ rest e ∙ sym (number_at p c.args.x c.loop-i.i (omega arith)) in
    record {
      rest = ap (λ (k : ℕ). c.loop-i.rest / k) e ∙ next_rest p c.args.x c.loop-i.i c.loop-i.rest rest;
      done = λ k h. grind (arith, common_steps, c.loop-i.invariant.done k, is);
    }

pub returns : goal.returns
returns c =
    let long = number-long (code c.args.self.now.code) c.args.x in
    ext_get_or 0 _ _ (omega (arith, long)) (λ k h. c.loop-i.invariant.done k (omega arith))
