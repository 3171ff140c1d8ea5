-- Binomials, and the patterns with one risen cell more.
use mathlib.Core.Path.{◌≡◌, refl, ap}
use Prim.Native.Nat.{ℕ, zero, suc, ◌+◌, ◌*◌, ◌^◌, ◌/◌, ◌-◌, ◌≤◌}
use native.Mathlib.Nat.{pow-suc, mul-le-mul, mul-le-mul_left, div-eq_of_eq-mul_left}
use native.Mathlib.Omega.{arith}
use Rattle.definitions.specs.Patterns.{binomial}

-- with i cells chosen of n, there are n - i ways to choose one more, and each choice of i + 1 is met i + 1 times
pub choose_next : (n i : ℕ) → binomial n (suc i) * suc i + binomial n i * i ≡ binomial n i * n
choose_next zero zero = refl
choose_next zero (suc i) = omega arith
choose_next (suc n) zero = let h = choose_next n zero in omega arith
choose_next (suc n) (suc i) =
    step (binomial n i) (binomial n (suc i)) (binomial n (suc (suc i))) n i (choose_next n i) (choose_next n (suc i))
  where
    step : (a b c n i : ℕ) → b * suc i + a * i ≡ a * n → c * suc (suc i) + b * suc i ≡ b * n → (b + c) * suc (suc i) + (a + b) * suc i ≡ (a + b) * suc n
    step a b c n i h k = omega arith

-- n - i cells that rise by at most l, for the largest n and l
pub most_rises : (n l i : ℕ) → n ≤ 64 → l ≤ 63 → (n - i) * l ≤ 4032
most_rises n l i h k = mul-le-mul {n₂ = 64} (omega arith) k

-- the patterns of n cells with one risen cell more, from the number x of those with i
module _ (x n l i : ℕ) where
  pub next-count : x ≡ binomial n i * l ^ i → i ≤ n → x * ((n - i) * l) / (i + 1) ≡ binomial n (suc i) * l ^ suc i
  next-count e h =
      div-eq_of_eq-mul_left (omega arith)
      (rw e (step (binomial n i) (binomial n (suc i)) (l ^ i) (l ^ suc i) (n - i) (pow-suc l i) (choose_next n i) (omega arith)))
    where
      step : (a b p p' m : ℕ) → p' ≡ p * l → b * suc i + a * i ≡ a * n → n ≡ m + i → a * p * (m * l) ≡ b * p' * (i + 1)
      step a b p p' m e k f =
          let j : b * suc i + a * i ≡ a * (m + i) = rw f at k in
          let g : b * suc i * (p * l) ≡ a * m * (p * l) = ap (λ (z : ℕ). z * (p * l)) (omega arith) in
          rw e (omega arith)

  pub next-most : n ≤ 64 → l ≤ 63 → x * ((n - i) * l) ≤ x * 4032
  next-most h k = mul-le-mul_left x (most_rises n l i h k)
