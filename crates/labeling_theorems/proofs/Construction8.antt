-- The reversed labeling is document 001's Construction 8, "a method for cell-level labeling".
use mathlib.Core.Path.{◌≡◌, refl, sym, ap, ap₂, ◌∙◌}
use Prim.Native.Nat.{ℕ, zero, suc, ◌+◌, ◌-◌, ◌*◌, ◌/◌, ◌%◌, ◌^◌, ◌≤◌, ◌<◌}
use native.Mathlib.Nat.{pow-suc, add_assoc}
use native.Mathlib.Decide.{dec_lt}
use native.Mathlib.Omega.{arith}
use lib.Arith.{lt-one}
use lib.Pow.{pow_pos}
use Rattle.definitions.specs.Labels.{reversed, made_table, level_of}
use Rattle.word_laws.proofs.PowersOfTwo.{log2_power}
use Rattle.labeling_theorems.proofs.ReversedLevels.{reversed_lowest}
use Rattle.labeling_theorems.proofs.MadeTables.{made_at}

-- "Let π(0) = 0. For i = 1, 2, .., m and j = 2^(i-1), 2^(i-1) + 1, .., 2^i - 1, let π(j) = π(j - 2^(i-1)) + 2^(m-i)."
pub record Construction8 (m : ℕ) (π : ℕ → ℕ) : Type 0 where
  pub first : π 0 ≡ 0
  pub next : (i j : ℕ) → 1 ≤ i → i ≤ m → 2 ^ (i - 1) ≤ j → j ≤ 2 ^ i - 1 → π j ≡ π (j - 2 ^ (i - 1)) + 2 ^ (m - i)

reversed-zero : (m : ℕ) → reversed m 0 ≡ 0
unfolding reversed
reversed-zero zero = refl
reversed-zero (suc m) = reversed_lowest m 0 ∙ (let h = reversed-zero m in omega arith)

-- a state with one more bit, bit p, above the others
one_bit_more : (m p d : ℕ) → p < m → d < 2 ^ p → reversed m (2 ^ p + d) ≡ reversed m d + 2 ^ (m - suc p)
one_bit_more zero p d h k = absurd (omega arith)
one_bit_more (suc m) zero d h k =
    let e : d ≡ 0 = lt-one k in
    let f : suc m - 1 ≡ m = omega arith in
    rw (e, f, reversed_lowest m 1, reversed-zero (suc m)) (omega (arith, reversed-zero m))
one_bit_more (suc m) (suc p) d h k =
    let low : (2 ^ suc p + d) % 2 ≡ d % 2 = omega (arith, pow-suc 2 p) in
    let rest : (2 ^ suc p + d) / 2 ≡ 2 ^ p + d / 2 = omega (arith, pow-suc 2 p) in
    let below : d / 2 < 2 ^ p = omega (arith, pow-suc 2 p) in
    let place : m - suc p ≡ suc m - suc (suc p) = omega arith in
    reversed_lowest m (2 ^ suc p + d) ∙ ap₂ (λ (x y : ℕ). x * 2 ^ m + reversed m y) low rest
    ∙ ap (λ (x : ℕ). d % 2 * 2 ^ m + x) (one_bit_more m p (d / 2) (omega arith) below)
    ∙ sym (add_assoc (d % 2 * 2 ^ m) (reversed m (d / 2)) (2 ^ (m - suc p)))
    ∙ ap₂ (λ (x y : ℕ). x + 2 ^ y) (sym (reversed_lowest m d)) place

-- the reversed labeling is one by the construction
pub reversed_constructed : (m : ℕ) → Construction8 m (reversed m)
reversed_constructed m = record {
  first = reversed-zero m;
  next = λ i j a b c d.
      let e : i ≡ suc (i - 1) = omega arith in
      let double : 2 ^ i ≡ 2 ^ (i - 1) * 2 = ap (λ (x : ℕ). 2 ^ x) e ∙ pow-suc 2 (i - 1) in
      let sum : j ≡ 2 ^ (i - 1) + (j - 2 ^ (i - 1)) = omega arith in
      ap (reversed m) sum ∙ one_bit_more m (i - 1) (j - 2 ^ (i - 1)) (omega arith) (omega (arith, pow_pos (i - 1)))
      ∙ ap (λ (x : ℕ). reversed m (j - 2 ^ (i - 1)) + 2 ^ (m - x)) (sym e);
}

-- and the only one: kind 3's table has its levels
module _ (m : ℕ) (π : ℕ → ℕ) (constructed : Construction8 m π) where
  only : (i : ℕ) → i ≤ m → (s : ℕ) → s < 2 ^ i → π s ≡ reversed m s
  only zero h s k = ap π (lt-one k) ∙ constructed.first ∙ sym (ap (reversed m) (lt-one k) ∙ reversed-zero m)
  only (suc i) h s k = step (dec_lt s (2 ^ i)) (λ (t : ℕ) (l : t < 2 ^ i). only i (omega arith) t l)
    where
      step : Dec (s < 2 ^ i) → ((t : ℕ) → t < 2 ^ i → π t ≡ reversed m t) → π s ≡ reversed m s
      step (yes l) ih = ih s l
      step (no l) ih =
          let e : 2 ^ (suc i - 1) ≡ 2 ^ i = ap (λ (x : ℕ). 2 ^ x) (omega arith) in
          let from : 2 ^ (suc i - 1) ≤ s = omega arith in
          let to : s ≤ 2 ^ suc i - 1 = omega arith in
          constructed.next (suc i) s (omega arith) h from to
          ∙ ap (λ (x : ℕ). x + 2 ^ (m - suc i)) (ih (s - 2 ^ (suc i - 1)) (omega (arith, pow-suc 2 i)))
          ∙ sym ((reversed_constructed m).next (suc i) s (omega arith) h from to)

  pub kind_3_constructed : (s : ℕ) → s < 2 ^ m → level_of (made_table 3 (2 ^ m)) s ≡ π s
  kind_3_constructed s h =
      made_at 3 (2 ^ m) s h ∙ ap (λ (x : ℕ). reversed x s) (log2_power m) ∙ sym (only m (omega arith) s h)
