-- The pattern of the table's entry at the index of a word's syndrome: what is given, or refused, by it is what decoding answers.
use Rattle.std.proofs.Common.{◌≡◌, ℕ, ◌*◌, ◌/◌, ◌%◌, ◌<◌, Bool, true, false, not, List, length, sym, ap, ◌∙◌, arith}
use lib.Dec.{T}
use Rattle.definitions.specs.Words.{weight, subtract, nowhere_above, EachCell}
use Rattle.definitions.specs.Answers.{given, refused, result as left_by}
use Rattle.definitions.specs.Codewords.{syndrome}
use Rattle.definitions.specs.Decoding.{decode}
use Rattle.definitions.specs.Golay.{golay_code, syndrome_of_index, word_of_bits, HasIndex}
use Rattle.definitions.proofs.Tests.{above-each, each-above}
use Rattle.answers.specs.Answering.{leaves}
use Rattle.code_theorems.proofs.SyndromeDecoding.{decode-under, decode-above}
use Rattle.golay_table.proofs.Rule.{golay_accepted}

module _ (q : ℕ) (even : q % 2 ≡ 0) (y : List ℕ) (long : length y ≡ 23) (levels : EachCell (λ v. v < q) y)
    (i x : ℕ) (h : HasIndex i x) (index : syndrome (golay_code q) y ≡ syndrome_of_index i) (out : List ℕ) where
  abbrev e : List ℕ
  e = word_of_bits x

  same : syndrome (golay_code q) e ≡ syndrome (golay_code q) y
  same = h.index q ∙ sym index

  divides : q ≡ 2 * (q / 2)
  divides = omega (arith, even)

  pub refuses : true ≡ not (nowhere_above e y) → leaves (refused 11) out ≡ left_by (decode (golay_code q) y) out
  refuses s =
      ap (λ d. left_by d out)
      (sym (decode-above (golay_code q) (omega arith) (q / 2) divides (golay_accepted q) y long levels e (h.is_pattern q) same
      (λ u. step (nowhere_above e y) (each-above e y u) s)))
    where
      step : (b : Bool) → T b → true ≡ not b → ⊥
      step true t n = cc
      step false t n = t

  pub gives : false ≡ not (nowhere_above e y) → (k : ℕ) (z : List ℕ) → k ≡ weight e → z ≡ subtract y e
      → leaves (given k) z ≡ left_by (decode (golay_code q) y) out
  gives s k z p r = rw (p, r) (ap (λ d. left_by d out)
      (sym (decode-under (golay_code q) (omega arith) (q / 2) divides (golay_accepted q) y long levels e (h.is_pattern q) same
      (above-each e y (step (nowhere_above e y) s)))))
    where
      step : (b : Bool) → false ≡ not b → T b
      step true n = tt
      step false n = cc
