-- Powers of two: the test is the proposition, and log2 is the exponent.
use mathlib.Core.Path.{◌≡◌, refl, sym, ap, ◌∙◌}
use mathlib.Core.Bool.{cond}
use Prim.Native.Nat.{ℕ, zero, suc, ◌^◌, ◌≤◌, ◌<◌}
use native.Mathlib.Nat.{le_refl, le_trans, pow-suc}
use native.Mathlib.Decide.{dec_lt}
use native.Mathlib.Omega.{arith}
use lib.Dec.{T, ltb, eqb→eq}
use lib.Pow.{pow-lt, pow_mono}
use borrow.Author.Tests.{lt-ltb, le-ltb}
use Rattle.definitions.specs.Words.{sum_to}
use Rattle.definitions.specs.PowersOfTwo.{PowerOfTwo, log2, is_power_of_two}
use Rattle.definitions.proofs.Tests.{eq_test}

-- a sum of k ones, then of zeros
module _ (f : ℕ → ℕ) (k : ℕ) (one : (j : ℕ) → j < k → f j ≡ 1) (none : (j : ℕ) → k ≤ j → f j ≡ 0) where
  ones : (n : ℕ) → n ≤ k → sum_to n f ≡ n
  ones zero h = refl
  ones (suc n) h = let a = ones n (omega arith) in let b = one n (omega arith) in omega arith

  counted : (n : ℕ) → k ≤ n → sum_to n f ≡ k
  counted zero h = omega arith
  counted (suc n) h = step (dec_lt n k) (λ (g : k ≤ n). counted n g)
    where
      step : Dec (n < k) → (k ≤ n → sum_to n f ≡ k) → sum_to (suc n) f ≡ k
      step (yes l) ih = ones (suc n) l ∙ omega arith
      step (no l) ih = let a = ih (omega arith) in let b = none n (omega arith) in omega arith

below_power : (k : ℕ) → k < 2 ^ k
below_power zero = omega arith
below_power (suc k) = let h = below_power k in omega (arith, pow-suc 2 k)

-- the least k with q ≤ 2 ^ k
pub log2-least : (q k : ℕ) → ((j : ℕ) → j < k → 2 ^ j < q) → q ≤ 2 ^ k → log2 q ≡ k
unfolding log2
log2-least q k below h =
    counted (λ j. cond (ltb (2 ^ j) q) 1 0) k
    (λ j l. rw (lt-ltb (2 ^ j) q (below j l)))
    (λ j l. rw (le-ltb (2 ^ j) q (le_trans h (pow_mono l)))) q (long k below)
  where
    long : (m : ℕ) → ((j : ℕ) → j < m → 2 ^ j < q) → m ≤ q
    long zero b = omega arith
    long (suc m) b = let g = b m (omega arith) in omega (arith, below_power m)

pub log2_power : (k : ℕ) → log2 (2 ^ k) ≡ k
log2_power k = log2-least (2 ^ k) k (λ j h. pow-lt h) (le_refl (2 ^ k))

pub power_is : (q : ℕ) → T (is_power_of_two q) → q ≡ 2 ^ log2 q
unfolding is_power_of_two
power_is q h = sym (eqb→eq (2 ^ log2 q) q h)

pub test_power : (q : ℕ) → T (is_power_of_two q) → PowerOfTwo q
test_power q h = (log2 q, power_is q h)

pub power_test : (q : ℕ) → PowerOfTwo q → T (is_power_of_two q)
unfolding is_power_of_two
power_test q (k, e) = eq_test (2 ^ log2 q) q (ap (λ (x : ℕ). 2 ^ log2 x) e ∙ ap (λ (x : ℕ). 2 ^ x) (log2_power k) ∙ sym e)
