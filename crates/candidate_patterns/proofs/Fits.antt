-- What the tests of a pattern show, cell by cell and entry by entry.
use mathlib.Core.Path.{◌≡◌, refl, sym, ap, ap₂, ◌∙◌, subst}
use mathlib.Core.Logic.{◌⊎◌, inl, inr}
use mathlib.Core.Bool.{Bool, true, false, ◌&&◌}
use mathlib.Core.List.{List, [], ◌∷◌, map}
use Prim.Native.Nat.{ℕ, zero, suc, ◌+◌, ◌-◌, ◌≤◌, ◌<◌, ◌%◌}
use native.Mathlib.Decide.{dec_lt}
use native.Mathlib.Omega.{arith}
use lib.Dec.{T, eqb, ltb}
use lib.ListN.{length, replicate, drop, length-drop}
use lib.Pointwise.{pointwise}
use lib.Seq.{get_or-drop}
use borrow.Author.Tests.{ltb-true, ltb-false, le-ltb, eqb-true}
use Rattle.std.specs.Bool.{MatchBool}
use Rattle.std.specs.List.{range_with_len, AllWithin, HoldsAt}
use Rattle.std.proofs.lemmas.List.FromFn.{length-range_with_len, get_or-range_with_len}
use Rattle.definitions.specs.Words.{at, up_from, subtract, nowhere_above, all_below, all_zero, EachCell}
use Rattle.definitions.specs.Codes.{Code, data_cells}
use Rattle.definitions.specs.Codewords.{syndrome_entry, syndrome, ceiling, is_codeword}
use Rattle.definitions.specs.Decoding.{fits, same_syndrome}
use Rattle.definitions.proofs.Tests.{and_left, and_right, and_both, eq_test, same_eq, below_each, each_below, above-each, each-above}
use Rattle.word_laws.proofs.Cells.{at-past, at-map2, length-map2, each_at, at_each, pair_at, at_pair, up_from_bounds, up_from_mem, same_map, map-zero}
use Rattle.candidate_patterns.specs.declared.Risen.{Risen}
use Rattle.candidate_patterns.specs.Candidates.{magnitude_at, word_of, no_rise, rise_at}
use Rattle.candidate_patterns.proofs.Choices.{word_at, word-past, length-word, chosen_or_none}
use Rattle.code_theorems.proofs.Syndromes.{zero_where_same}

pub is_true : (b : Bool) → T b → b ≡ true
is_true true h = refl
is_true false h = absurd h

pub is_false : (b : Bool) → (T b → ⊥) → b ≡ false
is_false true h = absurd (h tt)
is_false false h = refl

same_each : (p : Code) (y e : List ℕ) → same_syndrome p y e ≡ true → (i : ℕ) → i < p.r → syndrome_entry p e i ≡ syndrome_entry p y i
unfolding same_syndrome syndrome
same_each p y e s i h = same_map (syndrome_entry p e) (syndrome_entry p y) (up_from 0 p.r) q i (up_from_mem 0 p.r i (omega arith) (omega arith))
  where
    q : map (syndrome_entry p e) (up_from 0 p.r) ≡ map (syndrome_entry p y) (up_from 0 p.r)
    q = same_eq (map (syndrome_entry p e) (up_from 0 p.r)) (map (syndrome_entry p y) (up_from 0 p.r)) (subst T (sym s) tt)

-- a cell is not above the word, and a check cell is left below the ceiling
abbrev pub CellFits : Code → List ℕ → List ℕ → ℕ → Type 0
CellFits p y e i = (at e i ≤ at y i) × (data_cells p ≤ i → at y i - at e i < ceiling p)

module _ (p : Code) (y e : List ℕ) (ly : length y ≡ p.n) (le : length e ≡ p.n) where
  s : List ℕ
  s = subtract y e

  long : length s ≡ p.n
  unfolding s
  long = length-map2 (λ a b. a - b) y e (omega arith) ∙ ly

  cell : (i : ℕ) → i < p.n → at s i ≡ at y i - at e i
  unfolding s
  cell i h = at-map2 (λ a b. a - b) y e i (omega arith) (omega arith)

  check_at : (i : ℕ) → data_cells p ≤ i → i < p.n → at (drop (data_cells p) s) (i - data_cells p) ≡ at y i - at e i
  check_at i b h =
      get_or-drop (data_cells p) s (i - data_cells p) 0
      ∙ ap (at s) (let q : data_cells p + (i - data_cells p) ≡ i = omega arith in q) ∙ cell i h

  pub fits_each : fits p y e ≡ true → (i : ℕ) → i < p.n → CellFits p y e i
  unfolding fits is_codeword s
  fits_each f i h = (pair_at (λ a b. b ≤ a) y e (above-each e y above) i (omega arith), λ b. rw (sym (check_at i b h)) (check b))
    where
      all : T (same_syndrome p y e && nowhere_above e y && is_codeword p s)
      all = subst T (sym f) tt

      above : T (nowhere_above e y)
      above = and_right (same_syndrome p y e) (nowhere_above e y) (and_left (same_syndrome p y e && nowhere_above e y) (is_codeword p s) all)

      ceilings : T (all_below (ceiling p) (drop (data_cells p) s))
      ceilings =
          and_right (eqb (length s) p.n && all_below p.q s) (all_below (ceiling p) (drop (data_cells p) s))
          (and_left (eqb (length s) p.n && all_below p.q s && all_below (ceiling p) (drop (data_cells p) s)) (all_zero (syndrome p s))
          (and_right (same_syndrome p y e && nowhere_above e y) (is_codeword p s) all))

      check : data_cells p ≤ i → at (drop (data_cells p) s) (i - data_cells p) < ceiling p
      check b =
          each_at (λ v. v < ceiling p) (drop (data_cells p) s) (below_each (ceiling p) (drop (data_cells p) s) ceilings) (i - data_cells p)
          (rw length-drop (omega (arith, long)))

  -- where the syndromes are the same, the cells decide
  pub fits_all : 0 < p.M → EachCell (λ v. v < p.q) y → same_syndrome p y e ≡ true → ((i : ℕ) → i < p.n → CellFits p y e i) → fits p y e ≡ true
  unfolding fits is_codeword syndrome s
  fits_all m levels same h = is_true (fits p y e)
      (and_both (same_syndrome p y e && nowhere_above e y) (is_codeword p s)
      (and_both (same_syndrome p y e) (nowhere_above e y) (subst T (sym same) tt)
      (each-above e y (at_pair (λ a b. b ≤ a) y e (omega arith) (λ j g. (h j (omega arith)).0))))
      (and_both (eqb (length s) p.n && all_below p.q s && all_below (ceiling p) (drop (data_cells p) s)) (all_zero (syndrome p s))
      (and_both (eqb (length s) p.n && all_below p.q s) (all_below (ceiling p) (drop (data_cells p) s))
      (and_both (eqb (length s) p.n) (all_below p.q s) (eq_test (length s) p.n long) (each_below p.q s (at_each (λ v. v < p.q) s level)))
      (each_below (ceiling p) (drop (data_cells p) s) (at_each (λ v. v < ceiling p) (drop (data_cells p) s) check)))
      (map-zero (syndrome_entry p s) (up_from 0 p.r) (λ k b. nothing k (let (a, c) = up_from_bounds 0 p.r k b in omega arith)))))
    where
      level : (j : ℕ) → j < length s → at s j < p.q
      level j g =
          let b : j < p.n = omega (arith, long) in
          let l : at y j < p.q = each_at (λ v. v < p.q) y levels j (omega arith) in
          rw (cell j b) (omega arith)

      check : (j : ℕ) → j < length (drop (data_cells p) s) → at (drop (data_cells p) s) j < ceiling p
      check j g =
          let b : data_cells p + j < p.n = (let q = length-drop (data_cells p) s in omega (arith, long)) in
          rw (get_or-drop (data_cells p) s j 0, cell (data_cells p + j) b) ((h (data_cells p + j) b).1 (omega arith))

      sum : (j : ℕ) → at y j ≡ at s j + at e j
      sum j = step (dec_lt j p.n)
        where
          step : Dec (j < p.n) → at y j ≡ at s j + at e j
          step (yes b) = let c = (h j b).0 in omega (arith, cell j b)
          step (no b) = omega (arith, at-past y j (omega arith), at-past s j (omega (arith, long)), at-past e j (omega arith))

      nothing : (k : ℕ) → k < p.r → syndrome_entry p s k ≡ 0
      nothing k b = zero_where_same p m y s e (λ j. ap (λ (v : ℕ). v % p.M) (sum j)) k (same_each p y e same k b)

-- a pattern is above the word at cell i
abbrev pub is_above_at : List ℕ → Risen → ℕ → Bool
is_above_at y k i = ltb (at y i) (at (word_of (length y) k) i)

-- the same of a pattern, in the search's terms
module _ (p : Code) (y : List ℕ) (k : Risen) (ly : length y ≡ p.n) where
  at-word : (i : ℕ) → i < p.n → at (word_of p.n k) i ≡ magnitude_at k i
  at-word i h = word_at p.n k i h

  -- the pattern is above the word at cell i
  pub above_fails : (i : ℕ) → is_above_at y k i ≡ true → false ≡ fits p y (word_of p.n k)
  above_fails i e = sym (is_false (fits p y (word_of p.n k)) (λ f. step f (dec_lt i p.n)))
    where
      above : at y i < at (word_of p.n k) i
      above = ltb-true (at y i) (at (word_of p.n k) i) (ap (λ (n : ℕ). ltb (at y i) (at (word_of n k) i)) (sym ly) ∙ e)

      step : T (fits p y (word_of p.n k)) → Dec (i < p.n) → ⊥
      step f (yes h) = let c = (fits_each p y (word_of p.n k) ly (length-word p.n k) (is_true (fits p y (word_of p.n k)) f) i h).0 in omega (arith, above)
      step f (no h) = omega (arith, above, word-past p.n k i (omega arith))

  -- whether it is above the word at a chosen cell
  abbrev pub Above : Bool → Type 0
  Above b =
      MatchBool b ((j : ℕ) × (j < length k.rises) × HoldsAt (λ r. is_above_at y k r.cell ≡ true) k.rises j)
      (AllWithin (λ r. is_above_at y k r.cell ≡ false) k.rises 0 (length k.rises))

  pub chosen_above : (b : Bool) → Above b → b ≡ true → false ≡ fits p y (word_of p.n k)
  chosen_above true (j, l, h) e = above_fails (rise_at k j).cell (h no_rise)
  chosen_above false h e = cc

  -- a pattern that is not above the word at the cells chosen is so nowhere
  pub chosen_under : (b : Bool) → Above b → b ≡ false → (i : ℕ) → i < p.n → magnitude_at k i ≤ at y i
  unfolding magnitude_at
  chosen_under true h e i l = cc
  chosen_under false h e i l = step (chosen_or_none (λ c. is_above_at y k c ≡ false) k.rises (λ j g. h j no_rise (omega arith) g) i)
    where
      step : (magnitude_at k i ≡ 0) ⊎ (is_above_at y k i ≡ false) → magnitude_at k i ≤ at y i
      step (inl e) = omega (arith, e)
      step (inr u) = subst (λ (x : ℕ). x ≤ at y i) (at-word i l)
          (ltb-false (at y i) (at (word_of p.n k) i) (ap (λ (n : ℕ). ltb (at y i) (at (word_of n k) i)) (sym ly) ∙ u))

  module _
      (m : 0 < p.M) (levels : EachCell (λ v. v < p.q) y) (same : same_syndrome p y (word_of p.n k) ≡ true)
      (under : (i : ℕ) → i < p.n → magnitude_at k i ≤ at y i) where
    pub checks-below : (u : ℕ) → u ≡ ceiling p → ((i : ℕ) → i < p.n → data_cells p ≤ i → at y i - magnitude_at k i < u) → true ≡ fits p y (word_of p.n k)
    checks-below u eu h =
        sym (fits_all p y (word_of p.n k) ly (length-word p.n k) m levels same
        (λ i b. (rw (at-word i b) (under i b), λ w. rw (at-word i b, ← eu) (h i b w))))

    abbrev checks : List ℕ
    checks = range_with_len (data_cells p) (p.n - data_cells p)

    -- the check cells decide
    pub checks_decide :
        (u : ℕ) → u ≡ ceiling p → (b : Bool)
        → MatchBool b (AllWithin (λ i. at y i - magnitude_at k i < u) checks 0 (length checks))
        ((j : ℕ) × (j < length checks) × HoldsAt (λ i. u ≤ at y i - magnitude_at k i) checks j)
        → b ≡ fits p y (word_of p.n k)
    checks_decide u eu true all =
        checks-below u eu (λ i h w.
        let e : data_cells p + (i - data_cells p) ≡ i = omega arith in
        let z = get_or-range_with_len (data_cells p) (p.n - data_cells p) (i - data_cells p) 0 (omega arith) ∙ e in
        subst (λ (x : ℕ). at y x - magnitude_at k x < u) z (all (i - data_cells p) 0 (omega arith) (rw length-range_with_len (omega arith))))
    checks_decide u eu false (j, l, high) =
        let l' : j < p.n - data_cells p = rw length-range_with_len at l in
        let i = data_cells p + j in
        let h = subst (λ (x : ℕ). u ≤ at y x - magnitude_at k x) (get_or-range_with_len (data_cells p) (p.n - data_cells p) j 0 l') (high 0) in
        sym (is_false (fits p y (word_of p.n k)) (λ t.
        let c = (fits_each p y (word_of p.n k) ly (length-word p.n k) (is_true (fits p y (word_of p.n k)) t) i (omega arith)).1 (omega arith) in
        let d : at y i - magnitude_at k i < u = rw (sym (at-word i (omega arith)), eu) c in
        omega arith))

    -- the ceiling is q, and every level is below it
    pub no_ceiling : (u : ℕ) → u ≡ ceiling p → u ≡ p.q → true ≡ fits p y (word_of p.n k)
    no_ceiling u eu eq = checks-below u eu (λ i b w. let l : at y i < p.q = each_at (λ v. v < p.q) y levels i (omega arith) in omega arith)

-- the test of one cell
module _ (y : List ℕ) (k : Risen) (i : ℕ) where
  pub above-past : length y ≤ i → false ≡ ltb (at y i) (at (word_of (length y) k) i)
  above-past h = sym (le-ltb (at y i) (at (word_of (length y) k) i) (omega (arith, word-past (length y) k i h)))

  pub above_at : i < length y → (v g : ℕ) → v ≡ at y i → g ≡ magnitude_at k i → ltb v g ≡ ltb (at y i) (at (word_of (length y) k) i)
  above_at h v g ev eg = ap₂ ltb ev (eg ∙ sym (word_at (length y) k i h))

-- entries that are all 0
pub zeros-equal : (n : ℕ) (s : List ℕ) → length s ≡ n → pointwise eqb s (replicate n 0) ≡ all_zero s
zeros-equal zero [] e = refl
zeros-equal zero (x ∷ s) e = absurd (omega arith)
zeros-equal (suc n) [] e = absurd (omega arith)
zeros-equal (suc n) (x ∷ s) e = ap (λ (b : Bool). eqb x 0 && b) (zeros-equal n s (omega arith))

pub zeros-each : (s : List ℕ) → T (all_zero s) → (i : ℕ) → at s i ≡ 0
zeros-each [] h i = refl
zeros-each (x ∷ s) h zero = eqb-true x 0 (is_true (eqb x 0) (and_left (eqb x 0) (all_zero s) h))
zeros-each (x ∷ s) h (suc i) = zeros-each s (and_right (eqb x 0) (all_zero s) h) i

pub each-zeros : (s : List ℕ) → ((i : ℕ) → at s i ≡ 0) → T (all_zero s)
each-zeros [] h = tt
each-zeros (x ∷ s) h = and_both (eqb x 0) (all_zero s) (eq_test x 0 (h 0)) (each-zeros s (λ i. h (suc i)))
