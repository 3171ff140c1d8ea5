use Rattle.std.proofs.Common.{◌≡◌, ℕ, ◌*◌, ap, ◌∙◌, arith}
use Rattle.definitions.specs.Words.{at, sum_to}
use Rattle.definitions.specs.MessageNumbers.{place_value, message_number}
use Rattle.opening.specs.Viewed.{code}
use Rattle.message_numbers.proofs.Symbols.{next_sum}
use Rattle.message_numbers.proofs.Numbered.number_of.Goals as goal

pub overflow_add-x : goal.overflow_add-x
overflow_add-x c =
    let l = c.loop-i in
    let sum = next_sum c.args.self.now l.i l.invariant.place_value c.args.message.now c.requires.long c.requires.fits (omega arith) l.invariant.sum
    c.from.ensures in
    omega (arith, sum)

pub overflow_mul-x : goal.overflow_mul-x
overflow_mul-x c = omega (arith, overflow_add-x c)

pub returns : goal.returns
unfolding message_number
returns c =
    let e : c.loop-i.i ≡ c.args.self.now.code.n = omega arith in
    c.loop-i.invariant.sum ∙ ap (λ (k : ℕ). sum_to k (λ j. at c.args.message.now j * place_value (code c.args.self.now.code) j)) e
