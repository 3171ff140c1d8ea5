-- The patterns of one weight after another.
use mathlib.Core.Path.{◌≡◌, refl, ap, ◌∙◌}
use mathlib.Core.Logic.{◌⊎◌, inl, inr}
use mathlib.Core.List.{List, [], ◌++◌, map, map-append}
use Prim.Native.Nat.{ℕ, zero, suc, ◌+◌, ◌≤◌, ◌<◌}
use native.Mathlib.Nat.{eq-or-lt_of_le, sub-zero}
use native.Mathlib.Numerals.{add-one}
use native.Mathlib.Omega.{arith}
use lib.ListN.{length, length-append, length-map}
use Rattle.definitions.specs.Words.{up_from}
use Rattle.definitions.specs.Patterns.{of_weight, patterns}
use Rattle.definitions.specs.Codes.{Code}
use Rattle.acceptance.specs.Listing.{reached, zero_syndrome, syndromes_from, syndromes}

module _ (p : Code) where
  abbrev mags : List ℕ
  mags = up_from 1 p.l

  abbrev end : List ℕ → List ℕ
  end = reached p 0 zero_syndrome

  abbrev all : ℕ → List (List ℕ)
  all w = patterns mags w p.n

  -- the syndromes of the patterns of fewer than w risen cells
  unfoldable pub lighter : ℕ → List (List ℕ)
  lighter zero = []
  lighter (suc w) = map end (all w)

  pub lighter_none : lighter 0 ≡ []
  unfolding lighter
  lighter_none = refl

  pub lighter_more : (w : ℕ) → lighter (w + 1) ≡ lighter w ++ syndromes_from p w 0 zero_syndrome
  unfolding lighter syndromes_from
  lighter_more zero = simp sub-zero
  lighter_more (suc w) = rw (add-one (suc w), sub-zero p.n) (map-append end (all w) (of_weight mags (suc w) p.n))

  pub lighter_all : (w : ℕ) → w ≡ p.t + 1 → lighter w ≡ syndromes p
  unfolding lighter syndromes
  lighter_all w e = rw (e, add-one p.t)

  grows : (w t : ℕ) → w ≤ t → length (all w) ≤ length (all t)
  grows w zero h = let e : w ≡ 0 = omega arith in rw e (omega arith)
  grows w (suc t) h = step (eq-or-lt_of_le h) (λ (l : w ≤ t). grows w t l)
    where
      step : (w ≡ suc t) ⊎ (w < suc t) → (w ≤ t → length (all w) ≤ length (all t)) → length (all w) ≤ length (all (suc t))
      step (inl e) ih = rw e (omega arith)
      step (inr l) ih = let g = ih (omega arith) in omega (arith, length-append (all t) (of_weight mags (suc t) p.n))

  -- those of weight w find room after the lighter ones
  pub room : (w a i k : ℕ) → w ≤ p.t → a + length (syndromes p) ≤ k → i ≡ a + length (lighter w) → i + length (syndromes_from p w 0 zero_syndrome) ≤ k
  unfolding lighter syndromes
  room w a i k h f e =
      let these = syndromes_from p w 0 zero_syndrome in
      let a : length (lighter (w + 1)) ≡ length (lighter w) + length these = ap length (lighter_more w) ∙ length-append (lighter w) these in
      let b : length (lighter (w + 1)) ≡ length (all w) = rw (add-one w) (length-map (all w) end) in
      let c : length (syndromes p) ≡ length (all p.t) = length-map (all p.t) end in
      omega (arith, grows w p.t h)
