-- The syndrome is additive, cell by cell, modulo M.
use mathlib.Core.Path.{◌≡◌, sym, ap, ◌∙◌, subst}
use mathlib.Core.List.{List}
use Prim.Native.Nat.{ℕ, ◌+◌, ◌*◌, ◌%◌, ◌<◌}
use native.Mathlib.Nat.{add-mod, mod-mod, mod-lt, mul-add, zero-add}
use native.Mathlib.Omega.{arith}
use Rattle.definitions.specs.Words.{at, sum_to, up_from}
use Rattle.definitions.specs.Codes.{Code, data_cells}
use Rattle.definitions.specs.Codewords.{syndrome_entry, syndrome}
use Rattle.word_laws.proofs.Cells.{up_from_bounds, up_from_mem, map_same, same_map}
use Rattle.word_laws.proofs.Remainders.{regroup, cong_add, cong_mul, sum-add, cancel}

-- level by level, y is c and e together modulo M
abbrev pub Together : ℕ → List ℕ → List ℕ → List ℕ → Type 0
Together M y c e = (j : ℕ) → at y j % M ≡ (at c j + at e j) % M

module _ (p : Code) (y c e : List ℕ) (tog : Together p.M y c e) where
  pub syndrome-add : (k : ℕ) → syndrome_entry p y k ≡ (syndrome_entry p c k + syndrome_entry p e k) % p.M
  unfolding syndrome_entry
  syndrome-add k =
      cong_add p.M (sum_to w fy) (sum_to w fc + sum_to w fe) (at y (w + k)) (at c (w + k) + at e (w + k)) sums (tog (w + k))
      ∙ ap (λ (z : ℕ). z % p.M) (regroup (sum_to w fc) (sum_to w fe) (at c (w + k)) (at e (w + k)))
      ∙ add-mod (sum_to w fc + at c (w + k)) (sum_to w fe + at e (w + k)) p.M
    where
      w : ℕ
      w = data_cells p

      a : ℕ → ℕ
      a j = at p.A (k * w + j)

      fy : ℕ → ℕ
      fy j = a j * at y j

      fc : ℕ → ℕ
      fc j = a j * at c j

      fe : ℕ → ℕ
      fe j = a j * at e j

      sums : sum_to w fy % p.M ≡ (sum_to w fc + sum_to w fe) % p.M
      sums = sum-add p.M w fy fc fe
          (λ j. cong_mul p.M (a j) (at y j) (at c j + at e j) (tog j) ∙ ap (λ (z : ℕ). z % p.M) (mul-add (a j) (at c j) (at e j)))

module _ (p : Code) where
  pub syndrome_mod : (x : List ℕ) (k : ℕ) → syndrome_entry p x k % p.M ≡ syndrome_entry p x k
  unfolding syndrome_entry
  syndrome_mod x k = mod-mod _ p.M

  pub syndrome-below : 0 < p.M → (x : List ℕ) (k : ℕ) → syndrome_entry p x k < p.M
  syndrome-below h x k = subst (λ (u : ℕ). u < p.M) (syndrome_mod x k) (mod-lt (syndrome_entry p x k) h)

  -- where c's entry is 0, it adds nothing
  pub syndrome-zero : (y c e : List ℕ) → Together p.M y c e → (k : ℕ) → syndrome_entry p c k ≡ 0 → syndrome_entry p e k ≡ syndrome_entry p y k
  syndrome-zero y c e tog k z =
      sym (syndrome-add p y c e tog k ∙ ap (λ (u : ℕ). (u + syndrome_entry p e k) % p.M) z ∙ ap (λ (u : ℕ). u % p.M)
      (zero-add (syndrome_entry p e k)) ∙ syndrome_mod e k)

  -- and where e's entry is y's, c's is 0
  pub zero_where_same :
      0 < p.M → (y c e : List ℕ) → Together p.M y c e → (k : ℕ) → syndrome_entry p e k ≡ syndrome_entry p y k → syndrome_entry p c k ≡ 0
  zero_where_same pos y c e tog k same =
      cancel p.M (syndrome_entry p e k) (syndrome_entry p c k) (syndrome-below pos e k) (syndrome-below pos c k) (same ∙ syndrome-add p y c e tog k)

  -- as a list and entry by entry
  pub entries-syndrome : (x y : List ℕ) → ((k : ℕ) → k < p.r → syndrome_entry p x k ≡ syndrome_entry p y k) → syndrome p x ≡ syndrome p y
  unfolding syndrome
  entries-syndrome x y h = map_same (syndrome_entry p x) (syndrome_entry p y) (up_from 0 p.r) (λ k m. h k (omega (arith, up_from_bounds 0 p.r k m)))

  pub syndrome-entries : (x y : List ℕ) → syndrome p x ≡ syndrome p y → (k : ℕ) → k < p.r → syndrome_entry p x k ≡ syndrome_entry p y k
  unfolding syndrome
  syndrome-entries x y e k h = same_map (syndrome_entry p x) (syndrome_entry p y) (up_from 0 p.r) e k (up_from_mem 0 p.r k (omega arith) (omega arith))
