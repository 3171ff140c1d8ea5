-- Numbers and their bits.
use mathlib.Core.Path.{◌≡◌, refl, ap, ◌∙◌}
use Prim.Native.Nat.{ℕ, zero, suc, ◌+◌, ◌*◌, ◌/◌, ◌%◌, ◌^◌, ◌≤◌, ◌<◌}
use native.Mathlib.Nat.{add-zero, add-suc, add-mul, zero-mul, mul_comm, mul_assoc}
use native.Mathlib.Nat.{pow-zero, pow-succ', mod-lt, mod-eq_of_lt, div-eq_of_lt, lt_of_lt_of_le}
use native.Mathlib.Omega.{arith}
use lib.Arith.{digits_div, digits_mod}
use lib.Pow.{pow_mono, pow-add, shr-shr}
use Rattle.definitions.specs.PowersOfTwo.{bit, from_bits}
use Rattle.word_laws.proofs.Cells.{sum_same}
use Rattle.word_laws.proofs.MixedRadix.{Digits, made-below, digit-made, made-digits}

-- f gives bits
abbrev pub Bits : (ℕ → ℕ) → Type 0
Bits f = (k : ℕ) → f k ≤ 1

pub bit-small : (x : ℕ) → Bits (bit x)
bit-small x k = let h : x / 2 ^ k % 2 < 2 = mod-lt (x / 2 ^ k) (omega arith) in omega arith

pub bits_same : (w : ℕ) (f g : ℕ → ℕ) → ((k : ℕ) → k < w → f k ≡ g k) → from_bits w f ≡ from_bits w g
bits_same w f g h = sum_same w (λ i. f i * 2 ^ i) (λ i. g i * 2 ^ i) (λ k b. ap (λ (v : ℕ). v * 2 ^ k) (h k b))

pub bits_zero : (w : ℕ) (f : ℕ → ℕ) → ((k : ℕ) → k < w → f k ≡ 0) → from_bits w f ≡ 0
bits_zero zero f h = refl
bits_zero (suc w) f h = rw (bits_zero w f (λ k b. h k (omega arith)), h w (omega arith), zero-mul) (omega arith)

-- the bits from bit a on, and the low a bits
pub bits_apart : (f : ℕ → ℕ) (a b : ℕ) → from_bits (a + b) f ≡ from_bits b (λ k. f (a + k)) * 2 ^ a + from_bits a f
bits_apart f a zero = rw (add-zero, zero-mul) (omega arith)
bits_apart f a (suc b) = rw (add-suc, bits_apart f a b, pow-add 2 a b) (whole (from_bits b (λ k. f (a + k))) (from_bits a f) (f (a + b)) (2 ^ a) (2 ^ b))
  where
    sums : (p z r q : ℕ) → r ≡ p + q → (p + z) + q ≡ r + z
    sums p z r q e = omega arith

    whole : (y z v A B : ℕ) → (y * A + z) + v * (A * B) ≡ (y + v * B) * A + z
    whole y z v A B = sums (y * A) z ((y + v * B) * A) (v * (A * B)) (add-mul y (v * B) A ∙ rw (mul_assoc v B A, mul_comm B A) refl)

-- bits are the digits of radix 2
bit-digits : (f : ℕ → ℕ) → Bits f → (w : ℕ) → Digits (λ _. 2) (λ k. 2 ^ k) (pow-zero 2) (pow-succ' 2) f w
bit-digits f h w i g = let b = h i in omega arith

pub bits_below : (f : ℕ → ℕ) → Bits f → (w : ℕ) → from_bits w f < 2 ^ w
bits_below f h w = made-below (λ _. 2) (λ k. 2 ^ k) (pow-zero 2) (pow-succ' 2) f w (bit-digits f h w)

-- bit i of the number whose bits are f
pub bit_from : (f : ℕ → ℕ) → Bits f → (w i : ℕ) → i < w → bit (from_bits w f) i ≡ f i
bit_from f h w i g = digit-made (λ _. 2) (λ k. 2 ^ k) (pow-zero 2) (pow-succ' 2) f w (bit-digits f h w) i g

-- the number that the low w bits of x make
pub bits_of_lem : (x w : ℕ) → from_bits w (bit x) ≡ x % 2 ^ w
bits_of_lem x w = made-digits (λ _. 2) (λ k. 2 ^ k) (pow-zero 2) (pow-succ' 2) (λ _. omega arith) x w

pub bits_whole : (x w : ℕ) → x < 2 ^ w → from_bits w (bit x) ≡ x
bits_whole x w h = bits_of_lem x w ∙ mod-eq_of_lt h

-- the low a bits are what is left by 2 ^ a, and the others are the quotient
module _ (f : ℕ → ℕ) (small : Bits f) (a b : ℕ) where
  pub bits_low : from_bits (a + b) f % 2 ^ a ≡ from_bits a f
  bits_low = rw bits_apart (digits_mod (from_bits b (λ k. f (a + k))) (bits_below f small a))

  pub bits_high : from_bits (a + b) f / 2 ^ a ≡ from_bits b (λ k. f (a + k))
  bits_high = rw bits_apart (digits_div (from_bits b (λ k. f (a + k))) (bits_below f small a))

pub bit-above : (x w i : ℕ) → x < 2 ^ w → w ≤ i → bit x i ≡ 0
bit-above x w i h g = rw (div-eq_of_lt (lt_of_lt_of_le h (pow_mono g))) refl

pub bit_shifted : (x a i : ℕ) → bit (x / 2 ^ a) i ≡ bit x (a + i)
bit_shifted x a i = ap (λ (z : ℕ). z % 2) (shr-shr x a i)
