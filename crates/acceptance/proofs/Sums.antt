-- Sums over the cells of a word.
use mathlib.Core.Path.{◌≡◌, refl, sym, ap, ap₂, ◌∙◌}
use mathlib.Core.Logic.{◌⊎◌, inl, inr}
use mathlib.Core.List.{List, [], ◌∷◌}
use Prim.Native.Nat.{ℕ, zero, suc, ◌+◌, ◌*◌, ◌≤◌, ◌<◌}
use native.Mathlib.Nat.{eq-or-lt_of_le, add-zero, zero-add, add-suc, zero-mul, one-mul, mul_comm}
use native.Mathlib.Omega.{arith}
use lib.ListN.{length}
use Rattle.definitions.specs.Words.{at, sum_to}
use Rattle.definitions.specs.Codes.{Code, data_cells}
use Rattle.word_laws.proofs.Cells.{sum_same}
use Rattle.syndrome.specs.Columns.{column}
use Rattle.syndrome.proofs.Columns.{sum-zero, column_data, column_unit, column-other, column-past}

sum_front : (n : ℕ) (f : ℕ → ℕ) → sum_to (suc n) f ≡ f 0 + sum_to n (λ j. f (suc j))
sum_front zero f = omega arith
sum_front (suc n) f = let ih : sum_to (suc n) f ≡ f 0 + sum_to n (λ j. f (suc j)) = sum_front n f in omega arith

sum_split : (a b : ℕ) (f : ℕ → ℕ) → sum_to (a + b) f ≡ sum_to a f + sum_to b (λ i. f (a + i))
sum_split a zero f = rw (add-zero a) (sym (add-zero (sum_to a f)))
sum_split a (suc b) f = rw (add-suc a b) (let ih = sum_split a b f in omega arith)

-- a sum of which only the entry k is not 0
sum_one : (n k : ℕ) (f : ℕ → ℕ) → k < n → ((i : ℕ) → i < n → (i ≡ k → ⊥) → f i ≡ 0) → sum_to n f ≡ f k
sum_one zero k f l h = absurd (omega arith)
sum_one (suc n) k f l h = step (eq-or-lt_of_le l) (λ (g : k < n). sum_one n k f g (λ i a b. h i (omega arith) b))
  where
    step : (suc k ≡ suc n) ⊎ (suc k < suc n) → (k < n → sum_to n f ≡ f k) → sum_to (suc n) f ≡ f k
    step (inl e) ih =
        let q : k ≡ n = omega arith in
        let z = sum-zero n f (λ i a. h i (omega arith) (λ b. omega arith)) in
        rw q (omega arith)
    step (inr g) ih =
        let a = ih (omega arith) in
        let b = h n (omega arith) (λ e. omega arith) in
        omega arith

-- what the cells from the given one on add to entry k when they rise by e
unfoldable pub total : Code → ℕ → ℕ → List ℕ → ℕ
total p k cell [] = 0
total p k cell (v ∷ e) = v * column p k cell + total p k (cell + 1) e

module _ (p : Code) (k : ℕ) where
  abbrev w : ℕ
  w = data_cells p

  total_sum : (cell : ℕ) (e : List ℕ) → total p k cell e ≡ sum_to (length e) (λ j. column p k (cell + j) * at e j)
  unfolding total
  total_sum cell [] = refl
  total_sum cell (v ∷ e) =
      ap₂ ◌+◌ (mul_comm v (column p k cell) ∙ ap (λ (j : ℕ). column p k j * v) (sym (add-zero cell)))
      (total_sum (cell + 1) e ∙ sum_same (length e) (λ j. column p k (cell + 1 + j) * at e j) (λ j. column p k (cell + suc j) * at e j)
      (λ j l. let i : cell + 1 + j ≡ cell + suc j = omega arith in ap (λ (i : ℕ). column p k i * at e j) i))
      ∙ sym (sum_front (length e) (λ j. column p k (cell + j) * at (v ∷ e) j))

  -- for a word of n cells it is what syndrome entry k is the remainder of
  pub total_entry : (e : List ℕ) → length e ≡ p.n → k < p.r → p.r ≤ p.n → total p k 0 e ≡ sum_to w (λ j. at p.A (k * w + j) * at e j) + at e (w + k)
  total_entry e l h g =
      total_sum 0 e
      ∙ ap (λ (n : ℕ). sum_to n f) (let q : length e ≡ w + p.r = omega arith in q)
      ∙ sum_split w p.r f
      ∙ ap₂ ◌+◌ (sum_same w f (λ j. at p.A (k * w + j) * at e j) matrix) (sum_one p.r k (λ i. f (w + i)) h other ∙ check)
    where
      f : ℕ → ℕ
      f j = column p k (0 + j) * at e j

      matrix : (j : ℕ) → j < w → f j ≡ at p.A (k * w + j) * at e j
      matrix j a = rw (zero-add j, ← column_data p k j a)

      other : (i : ℕ) → i < p.r → (i ≡ k → ⊥) → f (w + i) ≡ 0
      other i a b = rw (zero-add (w + i), ← column-other p k (w + i) (omega arith) (λ q. b (omega arith))) (zero-mul (at e (w + i)))

      check : f (w + k) ≡ at e (w + k)
      check = rw (zero-add (w + k), ← column_unit p k (w + k) (omega arith) refl) (one-mul (at e (w + k)))

  -- past the r entries there is nothing
  pub total_past : (e : List ℕ) → length e ≡ p.n → length p.A ≡ p.r * w → p.r ≤ k → total p k 0 e ≡ 0
  total_past e l la h =
      total_sum 0 e
      ∙ sum-zero (length e) (λ j. column p k (0 + j) * at e j) (λ j i. rw (zero-add j, column-past p k j la h (omega (arith, l))) (zero-mul (at e j)))
