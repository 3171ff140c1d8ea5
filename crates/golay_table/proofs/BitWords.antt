-- The word that a number of 23 bits stands for, cell by cell.
use Rattle.std.proofs.Common.{◌≡◌, ℕ, ◌-◌, ◌≤◌, ◌<◌, length, ap, ◌∙◌, arith}
use Rattle.std.specs.Int.{bit_at}
use Rattle.std.proofs.lemmas.Nat.Bits.{bit_at-lt}
use Rattle.definitions.specs.Words.{at, EachCell}
use Rattle.definitions.specs.Golay.{word_of_bits}
use Rattle.word_laws.proofs.Cells.{at-up_from, at_each}

pub length-word_of_bits : (x : ℕ) → length (word_of_bits x) ≡ 23
unfolding word_of_bits
length-word_of_bits x = omega arith

pub at-word_of_bits : (x j : ℕ) → j < 23 → at (word_of_bits x) j ≡ bit_at x (22 - j)
unfolding word_of_bits
at-word_of_bits x j h = at-up_from (λ i. bit_at x (22 - i)) 0 23 j h ∙ ap (λ i. bit_at x (22 - i)) (omega arith)

pub each_bit : (x : ℕ) → EachCell (λ v. v ≤ 1) (word_of_bits x)
each_bit x = at_each (λ v. v ≤ 1) (word_of_bits x) λ j h.
    rw (at-word_of_bits x j (omega (arith, length-word_of_bits x))) (omega (arith, bit_at-lt x (22 - j)))
