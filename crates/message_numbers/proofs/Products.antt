-- The product of the radices in two parts.
use Rattle.std.proofs.Common.{◌≡◌, ℕ, zero, suc, ◌+◌, ◌-◌, ◌*◌, ◌/◌, ◌^◌, ◌≤◌, ◌<◌, sym, ap, ◌∙◌, arith, lt-ltb, le-ltb, le-leb, leb, refl}
use Rattle.std.proofs.Common.{Option, None, SomeIff}
use Rattle.std.specs.Bool.{then_some}
use Rattle.std.proofs.lemmas.Bool.{lt-leb}
use native.Mathlib.Decide.{dec_lt}
use native.Mathlib.Nat.{add-zero, add-suc, mul-one, mul_assoc, pow-zero, pow-suc, one-le-pow, mul_comm, le-mul_of_pos_right}
use Rattle.definitions.specs.Codes.{Code, data_cells}
use Rattle.definitions.specs.Packing.{radix}
use Rattle.definitions.specs.MessageNumbers.{product_to, radix_product}
use Rattle.word_laws.proofs.MixedRadix.{quotient_positive}

-- no product, where it is not within the bound
pub none_within : {P : Type 0} {r : Option ℕ} (k : ℕ) → r ≡ None → (P → ⊥) → SomeIff r P k
none_within k e h = rw e h

-- and a product that the bound is asked of
pub kept_within : {r : Option ℕ} (k y : ℕ) → y ≡ k → r ≡ then_some (leb y (2 ^ 63)) y → SomeIff r (k ≤ 2 ^ 63) k
kept_within k y e h = rw (h, e) (step (dec_lt (2 ^ 63) k))
  where
    step : Dec (2 ^ 63 < k) → SomeIff (then_some (leb k (2 ^ 63)) k) (k ≤ 2 ^ 63) k
    step (yes w) = rw (lt-leb k (2 ^ 63) w) (λ v. absurd (omega arith))
    step (no w) = rw (le-leb k (2 ^ 63) (omega arith)) (omega arith, refl)

module _ (p : Code) where
  leading_product : (m : ℕ) → m ≤ data_cells p → product_to m (radix p) ≡ p.q ^ m
  leading_product zero h = sym (pow-zero p.q)
  leading_product (suc m) h = rw (leading_product m (omega arith), lt-ltb m (data_cells p) h) (sym (pow-suc p.q m))

  all_product : (d : ℕ) → product_to (data_cells p + d) (radix p) ≡ p.q ^ data_cells p * (p.q / p.M) ^ d
  all_product zero = rw (add-zero, pow-zero, mul-one) (leading_product (data_cells p) (omega arith))
  all_product (suc d) =
      rw (add-suc, all_product d, le-ltb (data_cells p + d) (data_cells p) (omega arith), pow-suc)
      (mul_assoc (p.q ^ data_cells p) ((p.q / p.M) ^ d) (p.q / p.M))

  -- n - r factors q, then r factors floor(q / M)
  pub product_parts : p.r ≤ p.n → radix_product p ≡ p.q ^ data_cells p * (p.q / p.M) ^ p.r
  unfolding radix_product
  product_parts h = let e : p.n ≡ data_cells p + p.r = omega arith in ap (λ (m : ℕ). product_to m (radix p)) e ∙ all_product p.r

  pub product_is : {a b : ℕ} → p.r ≤ p.n → a ≡ p.q ^ (p.n - p.r) → b ≡ (p.q / p.M) ^ p.r → a * b ≡ radix_product p
  product_is h e f = rw (e, f) (sym (product_parts h))

  -- each part is at most the product
  module _ (hr : p.r ≤ p.n) (hM : 0 < p.M) (hq : p.M ≤ p.q) where
    pub data_within : p.q ^ (p.n - p.r) ≤ radix_product p
    data_within = rw (product_parts hr) (le-mul_of_pos_right (p.q ^ data_cells p) (one-le-pow p.r (p.q / p.M) (quotient_positive p.q p.M hM hq)))

    pub check_within : (p.q / p.M) ^ p.r ≤ radix_product p
    check_within =
        rw (product_parts hr, mul_comm (p.q ^ data_cells p) ((p.q / p.M) ^ p.r))
        (le-mul_of_pos_right ((p.q / p.M) ^ p.r) (one-le-pow (data_cells p) p.q (omega arith)))
