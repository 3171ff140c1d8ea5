-- The reversed level, over m bits: below 2 ^ m, and reversed again it is the state.
use mathlib.Core.Path.{◌≡◌, sym, ap, ap₂, ◌∙◌}
use Prim.Native.Nat.{ℕ, suc, ◌+◌, ◌-◌, ◌*◌, ◌/◌, ◌%◌, ◌^◌, ◌<◌}
use native.Mathlib.Nat.{mod-eq_of_lt, div-one, add_comm}
use native.Mathlib.Numerals.{one-add}
use native.Mathlib.Omega.{arith}
use Rattle.definitions.specs.PowersOfTwo.{bit, from_bits}
use Rattle.definitions.specs.Labels.{reversed}
use Rattle.word_laws.proofs.Bits.{bit-small, bits_same, bits_apart, bits_below, bits_of_lem, bit_from, bit_shifted}

-- the lowest bit of s becomes the highest
pub reversed_lowest : (m s : ℕ) → reversed (suc m) s ≡ s % 2 * 2 ^ m + reversed m (s / 2)
unfolding reversed
reversed_lowest m s =
    ap₂ ◌+◌ (bits_same m (λ j. bit s (suc m - 1 - j)) (λ j. bit (s / 2) (m - 1 - j)) lower) (ap (λ (x : ℕ). x * 2 ^ m) highest)
    ∙ add_comm (from_bits m (λ j. bit (s / 2) (m - 1 - j))) (s % 2 * 2 ^ m)
  where
    lower : (j : ℕ) → j < m → bit s (suc m - 1 - j) ≡ bit (s / 2) (m - 1 - j)
    lower j l =
        let e : suc m - 1 - j ≡ 1 + (m - 1 - j) = omega arith in
        ap (bit s) e ∙ sym (bit_shifted s 1 (m - 1 - j))

    highest : bit s (suc m - 1 - m) ≡ s % 2
    highest = let e : suc m - 1 - m ≡ 0 = omega arith in ap (bit s) e ∙ ap (λ (x : ℕ). x % 2) (div-one s)

-- and the highest of m + 1 bits the lowest
pub reversed_highest : (m s : ℕ) → reversed (suc m) s ≡ reversed m s * 2 + bit s m
unfolding reversed
reversed_highest m s =
    ap (λ (w : ℕ). from_bits w f) (sym (one-add m)) ∙ bits_apart f 1 m
    ∙ ap₂ (λ (x y : ℕ). x * 2 + y) (bits_same m (λ k. f (1 + k)) (λ k. bit s (m - 1 - k)) (λ k l. ap (bit s) (omega arith))) lowest
  where
    f : ℕ → ℕ
    f j = bit s (suc m - 1 - j)

    lowest : 0 + f 0 * 2 ^ 0 ≡ bit s m
    lowest =
        let e : suc m - 1 - 0 ≡ m = omega arith in
        let h : 0 + f 0 * 1 ≡ f 0 = omega arith in
        h ∙ ap (bit s) e

pub reversed-below : (m s : ℕ) → reversed m s < 2 ^ m
unfolding reversed
reversed-below m s = bits_below (λ j. bit s (m - 1 - j)) (λ j. bit-small s (m - 1 - j)) m

pub reversed_twice : (m s : ℕ) → reversed m (reversed m s) ≡ s % 2 ^ m
unfolding reversed
reversed_twice m s = bits_same m (λ j. bit (reversed m s) (m - 1 - j)) (bit s) again ∙ bits_of_lem s m
  where
    again : (j : ℕ) → j < m → bit (reversed m s) (m - 1 - j) ≡ bit s j
    again j l =
        bit_from (λ i. bit s (m - 1 - i)) (λ i. bit-small s (m - 1 - i)) m (m - 1 - j) (omega arith) ∙ ap (bit s) (omega arith)

pub reversed-apart : (m s t : ℕ) → s < 2 ^ m → t < 2 ^ m → reversed m s ≡ reversed m t → s ≡ t
reversed-apart m s t a b e =
    sym (mod-eq_of_lt a) ∙ sym (reversed_twice m s) ∙ ap (reversed m) e ∙ reversed_twice m t ∙ mod-eq_of_lt b
