-- What stays below the product while symbols are added up, and what is left of a number while its symbols are taken.
use Rattle.std.proofs.Common.{◌≡◌, refl, true, List, ℕ, suc, ◌+◌, ◌*◌, ◌/◌, ◌^◌, ◌≤◌, ◌<◌, length, subst, arith}
use native.Mathlib.Nat.{lt_of_lt_of_le, le_trans, div-div-eq-div-mul}
use native.Mathlib.Numerals.{add-one}
use Rattle.definitions.specs.Words.{at, sum_to}
use Rattle.definitions.specs.Codes as codes
use Rattle.definitions.specs.Messages.{symbols_fit}
use Rattle.definitions.specs.Packing.{radix}
use Rattle.definitions.specs.MessageNumbers.{place_value, radix_product}
use Rattle.word_laws.proofs.MixedRadix.{made-below, place_rises}
use Rattle.code_theorems.proofs.Messages.{fits}
use Rattle.code_theorems.proofs.Packing.{below-radix}
use Rattle.code_theorems.proofs.MessageNumbers.{value-next, radix_positive}
use Rattle.opening.specs.Viewed.{code}
use Rattle.message_numbers.specs.declared.Numbered.{Numbered}

module _ (a : Numbered) where
  abbrev p : codes.Code
  p = code a.code

  -- the place value after cell i + 1
  pub next_value : (i : ℕ) → i < p.n → place_value p i * radix p i ≤ 2 ^ 63
  unfolding radix_product
  next_value i h =
      le_trans (place_rises (radix p) (place_value p) refl (value-next p) (radix_positive p (omega arith) (omega arith)) (suc i) p.n (omega arith))
      (subst (λ (y : ℕ). y ≤ 2 ^ 63) a.is a.within)

  -- the number of the first i + 1 symbols
  pub next_sum :
      (i : ℕ) {v : ℕ} → v ≡ place_value p i → (s : List ℕ) {x g : ℕ} → length s ≡ p.n → symbols_fit p s ≡ true → i < length s
      → x ≡ sum_to i (λ j. at s j * place_value p j) → g ≡ at s i → x + g * v < 2 ^ 63
  next_sum i is s long fit h e f =
      let below = λ (j : ℕ) (g : j < suc i). below-radix p s (fits p s long fit) j (omega arith) in
      rw (is, e, f)
      (lt_of_lt_of_le (made-below (radix p) (place_value p) refl (value-next p) (at s) (suc i) below) (next_value i (omega arith)))

-- what is left of x once the symbols of i + 1 cells are taken
pub next_rest : (p : codes.Code) (x i rest : ℕ) → rest ≡ x / place_value p i → rest / radix p i ≡ x / place_value p (i + 1)
next_rest p x i rest e = rw (e, add-one) (div-div-eq-div-mul x (place_value p i) (radix p i))
