-- Columns, an entry of a syndrome by them, and the entries beyond the matrix.
use mathlib.Core.Path.{◌≡◌, refl, sym, ap, ap₂, ◌∙◌}
use mathlib.Core.Bool.{Bool, true, false, cond}
use mathlib.Core.List.{List, ◌++◌}
use mathlib.Core.Logic.{◌⊎◌, inl, inr}
use Prim.Native.Nat.{ℕ, zero, suc, ◌+◌, ◌*◌, ◌-◌, ◌%◌, ◌≤◌, ◌<◌}
use native.Mathlib.Nat.{add-zero, add-suc, zero-mul, mod-eq_of_lt, mul-le-mul_right}
use native.Mathlib.Decide.{dec_lt}
use native.Mathlib.Omega.{arith}
use lib.Dec.{eqb, ltb}
use lib.ListN.{length, drop, replicate}
use Rattle.std.proofs.lemmas.List.{get_or_append_left, get_or-append_right, get_or-drop}
use Rattle.std.proofs.lemmas.Bool.{cases_eq}
use Rattle.std.proofs.lemmas.Bool.Decides.{nat_tests}
use borrow.Author.Tests.{lt-ltb, le-ltb, eq-eqb, ne_eqb}
use Rattle.definitions.specs.Words.{at, sum_to, EachCell}
use Rattle.definitions.specs.Codes.{Code, data_cells}
use Rattle.definitions.specs.Codewords.{syndrome_entry}
use Rattle.word_laws.proofs.Cells.{at-past, each_at, sum_same}
use Rattle.syndrome.specs.Columns.{column}

pub sum-zero : (w : ℕ) (f : ℕ → ℕ) → ((j : ℕ) → j < w → f j ≡ 0) → sum_to w f ≡ 0
sum-zero zero f h = refl
sum-zero (suc w) f h = ap₂ ◌+◌ (sum-zero w f (λ j b. h j (omega arith))) (h w (omega arith))

-- a column's entries are below M, and 0 beyond the matrix
pub column-below : (p : Code) (i c : ℕ) → 1 < p.M → EachCell (λ v. v < p.M) p.A → column p i c < p.M
unfolding column
column-below p i c one h = step (ltb c w) (eqb c (w + i))
  where
    w : ℕ
    w = data_cells p

    entry : Dec (i * w + c < length p.A) → at p.A (i * w + c) < p.M
    entry (yes b) = each_at (λ v. v < p.M) p.A h (i * w + c) b
    entry (no b) = let z = at-past p.A (i * w + c) (omega arith) in omega arith

    step : (a b : Bool) → cond a (at p.A (i * w + c)) (cond b 1 0) < p.M
    step true b = entry (dec_lt (i * w + c) (length p.A))
    step false true = one
    step false false = omega arith

pub column-past : (p : Code) (i c : ℕ) → length p.A ≡ p.r * data_cells p → p.r ≤ i → c < p.n → column p i c ≡ 0
unfolding column
column-past p i c h b g = step (dec_lt c w)
  where
    w : ℕ
    w = data_cells p

    step : Dec (c < w) → cond (ltb c w) (at p.A (i * w + c)) (cond (eqb c (w + i)) 1 0) ≡ 0
    step (yes l) = simp (lt-ltb c w l) (at-past p.A (i * w + c) (let m : p.r * w ≤ i * w = mul-le-mul_right w b in omega arith))
    step (no l) = simp (le-ltb c w (omega arith), ne_eqb c (w + i) (λ q. omega arith))

-- beyond the r entries the matrix has no row and the word no cell
pub entry_past :
    (p : Code) (x : List ℕ) (i : ℕ) → length p.A ≡ p.r * data_cells p → length x ≡ p.n → p.r ≤ p.n → 0 < p.M → p.r ≤ i
    → syndrome_entry p x i ≡ 0
unfolding syndrome_entry
entry_past p x i la lx rn m h =
    ap (λ (v : ℕ). v % p.M) (ap₂ ◌+◌ (sum-zero w (λ j. at p.A (i * w + j) * at x j) row) (at-past x (w + i) (omega arith))) ∙ mod-eq_of_lt m
  where
    w : ℕ
    w = data_cells p

    row : (j : ℕ) → j < w → at p.A (i * w + j) * at x j ≡ 0
    row j b =
        let g : p.r * w ≤ i * w = mul-le-mul_right w h in
        ap (λ (v : ℕ). v * at x j) (at-past p.A (i * w + j) (omega arith)) ∙ zero-mul (at x j)

zeros : (n j : ℕ) → at (replicate n 0) j ≡ 0
zeros zero j = refl
zeros (suc n) zero = refl
zeros (suc n) (suc j) = zeros n j

-- the first r of N entries that were 0 were stored, and f is 0 from r on
pub stored_first :
    (f : ℕ → ℕ) (s : List ℕ) (r N : ℕ) → length s ≡ r → ((j : ℕ) → j < r → at s j ≡ f j) → ((j : ℕ) → r ≤ j → f j ≡ 0)
    → (i : ℕ) → at (s ++ drop r (replicate N 0)) i ≡ f i
stored_first f s r N long done left i = step (dec_lt i r)
  where
    step : Dec (i < r) → at (s ++ drop r (replicate N 0)) i ≡ f i
    step (yes h) = get_or_append_left s (drop r (replicate N 0)) 0 i (omega arith) ∙ done i h
    step (no h) =
        get_or-append_right s (drop r (replicate N 0)) r i 0 long (omega arith)
        ∙ get_or-drop r (replicate N 0) (i - r) 0
        ∙ zeros N (r + (i - r))
        ∙ sym (left i (omega arith))

-- a column's entry by the cell's kind
module _ (p : Code) (i c : ℕ) where
  pub column_data : c < data_cells p → at p.A (i * data_cells p + c) ≡ column p i c
  unfolding column
  column_data h = simp (lt-ltb c (data_cells p) h)

  pub column_unit : data_cells p ≤ c → c ≡ data_cells p + i → 1 ≡ column p i c
  unfolding column
  column_unit h e = simp (le-ltb c (data_cells p) h, eq-eqb c (data_cells p + i) e)

  pub column-other : data_cells p ≤ c → (c ≡ data_cells p + i → ⊥) → 0 ≡ column p i c
  unfolding column
  column-other h e = simp (le-ltb c (data_cells p) h, ne_eqb c (data_cells p + i) e)

-- an entry of the syndrome, over all cells alike
module _ (p : Code) (y : List ℕ) (i : ℕ) where
  abbrev by_column : ℕ → ℕ
  by_column c = column p i c * at y c

  -- of the first m check cells the sum takes the one of its row
  check_cells : (m : ℕ) → sum_to (data_cells p + m) by_column ≡ sum_to (data_cells p) by_column + cond (ltb i m) (at y (data_cells p + i)) 0
  check_cells zero = rw (le-ltb i 0 (omega arith), add-zero (data_cells p)) (omega arith)
  check_cells (suc m) = rw (add-suc w m, check_cells m) (step (cases_eq i m))
    where
      w : ℕ
      w = data_cells p

      step : (i ≡ m) ⊎ (i ≡ m → ⊥)
          → sum_to w by_column + cond (ltb i m) (at y (w + i)) 0 + by_column (w + m) ≡ sum_to w by_column + cond (ltb i (suc m)) (at y (w + i)) 0
      step (inl e) =
          rw (le-ltb i m (omega arith), lt-ltb i (suc m) (omega arith), sym (column_unit p i (w + m) (omega arith) (omega arith)), e) (omega arith)
      step (inr d) =
          rw (ltb-suc, sym (column-other p i (w + m) (omega arith) (λ e. d (omega arith)))) (omega arith)
        where
          ltb-suc : ltb i (suc m) ≡ ltb i m
          ltb-suc = grind (arith, nat_tests)

  pub entry_by_columns : i < p.r → p.r ≤ p.n → syndrome_entry p y i ≡ sum_to p.n by_column % p.M
  unfolding syndrome_entry
  entry_by_columns h g =
      let all : data_cells p + p.r ≡ p.n = omega arith in
      ap (λ (s : ℕ). s % p.M)
      (ap₂ ◌+◌
      (sum_same (data_cells p) (λ j. at p.A (i * data_cells p + j) * at y j) by_column (λ j l. ap (λ (a : ℕ). a * at y j) (column_data p i j l)))
      (sym (ap (λ (b : Bool). cond b (at y (data_cells p + i)) 0) (lt-ltb i p.r h)))
      ∙ sym (check_cells p.r) ∙ ap (λ (n : ℕ). sum_to n by_column) all)
