-- The list of patterns, split at a cell and at a magnitude, as two functions that choose a cell and a magnitude go through it.
-- Over the magnitudes 1 to l, the n cells, and what becomes of a pattern: F s e is the result of a pattern whose cells from some cell on
-- are e, s being what the cells before it led to; a cell with magnitude v leads from s to next s v.
use mathlib.Core.Path.{◌≡◌, refl, ap, ap₂, ◌∙◌}
use mathlib.Core.List.{List, [], ◌∷◌, ◌++◌, map, map-append}
use Prim.Native.Nat.{ℕ, zero, suc, ◌+◌, ◌-◌, ◌≤◌, ◌<◌}
use native.Mathlib.Nat.{sub-zero, sub-eq-zero_of_le}
use native.Mathlib.Numerals.{add-one, sub-one}
use native.Mathlib.Omega.{arith}
use lib.ListN.{replicate}
use Rattle.definitions.specs.Words.{up_from}
use Rattle.definitions.specs.Patterns.{prefixed, prefixed_by_each, of_weight}

-- no cell risen: the one pattern of zeros
pub none_risen : (mags : List ℕ) (n : ℕ) → of_weight mags 0 n ≡ replicate n 0 ∷ []
none_risen mags zero = refl
none_risen mags (suc n) = ap (prefixed 0) (none_risen mags n)

module _ {S X : Type 0} (next : S → ℕ → S) (F : S → List ℕ → X) (step : (s : S) (v : ℕ) (e : List ℕ) → F s (v ∷ e) ≡ F (next s v) e) where
  map-prefixed : (s : S) (v : ℕ) (es : List (List ℕ)) → map (F s) (prefixed v es) ≡ map (F (next s v)) es
  map-prefixed s v [] = refl
  map-prefixed s v (e ∷ es) = ap₂ {C = List X} (λ a b. a ∷ b) (step s v e) (map-prefixed s v es)

  module _ (l n : ℕ) where
    -- the results from s on: `left` of the cells from c on are risen
    abbrev cells : S → ℕ → ℕ → List X
    cells s left c = map (F s) (of_weight (up_from 1 l) left (n - c))

    -- cell c is the first of them, by more than mag
    abbrev mags : S → ℕ → ℕ → ℕ → List X
    mags s left c mag = map (F s) (prefixed_by_each (up_from (mag + 1) (l - mag)) (of_weight (up_from 1 l) (left - 1) (n - (c + 1))))

    pub all_chosen : (s : S) (left c : ℕ) → left ≡ 0 → cells s left c ≡ F s (replicate (n - c) 0) ∷ []
    all_chosen s left c e = rw (e, none_risen (up_from 1 l) (n - c))

    pub no_cell : (s : S) (left c : ℕ) → 1 ≤ left → n ≤ c → cells s left c ≡ []
    no_cell s zero c one h = absurd (omega arith)
    no_cell s (suc w) c one h = rw (sub-eq-zero_of_le h)

    pub at_cell_lem : (s : S) (left c : ℕ) → 1 ≤ left → c < n → cells s left c ≡ mags s left c 0 ++ cells (next s 0) left (c + 1)
    at_cell_lem s zero c one h = absurd (omega arith)
    at_cell_lem s (suc w) c one h =
        let d : n - c ≡ suc (n - (c + 1)) = omega arith in
        rw (d, sub-one, sub-zero)
        (map-append (F s) (prefixed_by_each (up_from 1 l) (of_weight (up_from 1 l) w m)) (prefixed 0 (of_weight (up_from 1 l) (suc w) m))
        ∙ ap (λ (xs : List X). map (F s) (prefixed_by_each (up_from 1 l) (of_weight (up_from 1 l) w m)) ++ xs)
        (map-prefixed s 0 (of_weight (up_from 1 l) (suc w) m)))
      where
        m : ℕ
        m = n - (c + 1)

    pub no_magnitude : (s : S) (left c mag : ℕ) → l ≤ mag → mags s left c mag ≡ []
    no_magnitude s left c mag h = rw (sub-eq-zero_of_le h)

    pub at_magnitude : (s : S) (left c mag : ℕ) → mag < l → mags s left c mag ≡ cells (next s (mag + 1)) (left - 1) (c + 1) ++ mags s left c (mag + 1)
    at_magnitude s left c mag h =
        let d : l - mag ≡ suc (l - (mag + 1)) = omega arith in
        rw (d, ← add-one (mag + 1))
        (map-append (F s) (prefixed (mag + 1) es) (prefixed_by_each (up_from (mag + 1 + 1) (l - (mag + 1))) es)
        ∙ ap (λ (xs : List X). xs ++ mags s left c (mag + 1)) (map-prefixed s (mag + 1) es))
      where
        es : List (List ℕ)
        es = of_weight (up_from 1 l) (left - 1) (n - (c + 1))
