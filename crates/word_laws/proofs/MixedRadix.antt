-- Numbers in mixed radix: digit i is below the radix f i, and P i is its place value.
use mathlib.Core.Path.{◌≡◌, sym, ap, ◌∙◌}
use Prim.Native.Nat.{ℕ, zero, suc, ◌+◌, ◌*◌, ◌/◌, ◌%◌, ◌≤◌, ◌<◌}
use native.Mathlib.Nat.{add_comm, zero-mul, one-mul, suc-mul, mul_assoc, mul-pos, mod-one, mod-eq_of_lt}
use native.Mathlib.Nat.{add-mul-div_right, add-mul-mod_self_right, le-div_iff_mul-le}
use native.Mathlib.Decide.{dec_lt}
use native.Mathlib.Omega.{arith}
use lib.Arith.{digits_lt, digits_div, mod-mul}
use Rattle.definitions.specs.Words.{sum_to}

-- a radix that is a quotient is not 0
pub quotient_positive : (q M : ℕ) → 0 < M → M ≤ q → 0 < q / M
quotient_positive q M h g = (le-div_iff_mul-le {k = M} h).1 (rw one-mul g)

module _ (f P : ℕ → ℕ) (first : P 0 ≡ 1) (next : (i : ℕ) → P (suc i) ≡ f i * P i) where
  -- the number that the first n of the digits s make
  abbrev pub made : (ℕ → ℕ) → ℕ → ℕ
  made s n = sum_to n (λ i. s i * P i)

  abbrev pub Digits : (ℕ → ℕ) → ℕ → Type 0
  Digits s n = (i : ℕ) → i < n → s i < f i

  pub made-below : (s : ℕ → ℕ) (n : ℕ) → Digits s n → made s n < P n
  made-below s zero h = omega (arith, first)
  made-below s (suc n) h =
      let k = digits_lt {c = P n} (h n (omega arith)) (made-below s n (λ i g. h i (omega arith))) in
      omega (arith, k, next n)

  -- the place value of each digit after digit i is a multiple of what digit i and those before it can make
  later : (i n : ℕ) → i < n → (k : ℕ) × (P n ≡ k * f i * P i)
  later i zero g = absurd (omega arith)
  later i (suc n) g = step (dec_lt i n) (later i n)
    where
      step : Dec (i < n) → (i < n → (k : ℕ) × (P n ≡ k * f i * P i)) → (k : ℕ) × (P (suc n) ≡ k * f i * P i)
      step (yes h) before =
          let (k, e) = before h in (
            f n * k,
            next n ∙ ap (λ (x : ℕ). f n * x) e ∙ sym (mul_assoc (f n) (k * f i) (P i))
                ∙ ap (λ (x : ℕ). x * P i) (sym (mul_assoc (f n) k (f i))),
          )
      step (no h) before =
          let e : i ≡ n = omega arith in
          (1, rw (e, next n, one-mul))

  -- digit i of the number that digits make
  pub digit-made : (s : ℕ → ℕ) (n : ℕ) → Digits s n → (i : ℕ) → i < n → made s n / P i % f i ≡ s i
  digit-made s zero h i g = absurd (omega arith)
  digit-made s (suc n) h i g = step (dec_lt i n) (digit-made s n (λ j k. h j (omega arith)) i)
    where
      low : made s i < P i
      low = made-below s i (λ j k. h j (omega arith))

      step : Dec (i < n) → (i < n → made s n / P i % f i ≡ s i) → (made s n + s n * P n) / P i % f i ≡ s i
      step (yes k) before =
          let (c, e) = later i n k in
          ap (λ (x : ℕ). (made s n + s n * x) / P i % f i) e
          ∙ ap (λ (x : ℕ). (made s n + x) / P i % f i) (sym (mul_assoc (s n) (c * f i) (P i)))
          ∙ ap (λ (x : ℕ). x % f i) (add-mul-div_right (made s n) (s n * (c * f i)) (omega (arith, low)))
          ∙ ap (λ (x : ℕ). (made s n / P i + x) % f i) (sym (mul_assoc (s n) c (f i)))
          ∙ add-mul-mod_self_right (made s n / P i) (s n * c) (f i) ∙ before k
      step (no k) before =
          let e : i ≡ n = omega arith in
          rw (← e, add_comm (made s i) (s i * P i), digits_div (s i) low) (mod-eq_of_lt (h i g))

  module _ (positive : (i : ℕ) → 0 < f i) where
    pub place_positive : (n : ℕ) → 0 < P n
    place_positive zero = omega (arith, first)
    place_positive (suc n) = rw (next n) (mul-pos (positive n) (place_positive n))

    -- place values do not fall
    pub place_rises : (i n : ℕ) → i ≤ n → P i ≤ P n
    place_rises i n h = step (dec_lt i n)
      where
        factor : (k : ℕ) → P n ≡ k * P i → P i ≤ P n
        factor zero e = let z = place_positive n in absurd (omega (arith, e, zero-mul (P i)))
        factor (suc k) e = omega (arith, e, suc-mul k (P i))

        step : Dec (i < n) → P i ≤ P n
        step (yes g) = let (k, e) = later i n g in factor (k * f i) e
        step (no g) = let e : i ≡ n = omega arith in rw e (omega arith)

    -- the number that the first n digits of x make
    pub made-digits : (x n : ℕ) → made (λ i. x / P i % f i) n ≡ x % P n
    made-digits x zero = rw first (sym (mod-one x))
    made-digits x (suc n) =
        ap (λ (z : ℕ). z + x / P n % f n * P n) (made-digits x n) ∙ add_comm (x % P n) (x / P n % f n * P n)
        ∙ sym (mod-mul x (positive n) (place_positive n)) ∙ ap (λ (z : ℕ). x % z) (sym (next n))
