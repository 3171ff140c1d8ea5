-- How the listing goes one cell, or one magnitude, further: the laws of the split, for syndromes.
use mathlib.Core.Path.{◌≡◌, refl, sym, ap, ◌∙◌}
use mathlib.Core.List.{List, [], ◌∷◌, ◌++◌}
use Prim.Native.Nat.{ℕ, zero, suc, ◌+◌, ◌-◌, ◌≤◌, ◌<◌}
use lib.ListN.{replicate}
use Rattle.definitions.specs.Codes.{Code}
use Rattle.word_laws.proofs.PatternSplits.{all_chosen, no_cell, at_cell_lem, no_magnitude, at_magnitude}
use Rattle.acceptance.specs.Listing.{raised_by, reached, syndromes_from, raised_from}

module _ (p : Code) where
  -- the cell that comes next and the syndrome so far
  abbrev next : ℕ × List ℕ → ℕ → ℕ × List ℕ
  next s v = (s.0 + 1, raised_by p s.0 v s.1)

  abbrev end : ℕ × List ℕ → List ℕ → List ℕ
  end s e = reached p s.0 s.1 e

  step : (s : ℕ × List ℕ) (v : ℕ) (e : List ℕ) → end s (v ∷ e) ≡ end (next s v) e
  unfolding reached
  step s v e = refl

  reached-unrisen : (d cell : ℕ) (s : List ℕ) → reached p cell s (replicate d 0) ≡ s
  unfolding reached raised_by
  reached-unrisen zero cell s = refl
  reached-unrisen (suc d) cell s = reached-unrisen d (cell + 1) s

  module _ (left cell : ℕ) (s : List ℕ) where
    pub done : left ≡ 0 → syndromes_from p left cell s ≡ s ∷ []
    unfolding syndromes_from
    done e =
        all_chosen next end step p.l p.n (cell, s) left cell e
        ∙ ap (λ (x : List ℕ). x ∷ []) (reached-unrisen (p.n - cell) cell s)

    pub cell_none : 1 ≤ left → p.n ≤ cell → syndromes_from p left cell s ≡ []
    unfolding syndromes_from
    cell_none = no_cell next end step p.l p.n (cell, s) left cell

    pub cell_more : 1 ≤ left → cell < p.n → syndromes_from p left cell s ≡ raised_from p left cell s 0 ++ syndromes_from p left (cell + 1) s
    unfolding syndromes_from raised_from raised_by
    cell_more = at_cell_lem next end step p.l p.n (cell, s) left cell

    pub mag_none : (mag : ℕ) → p.l ≤ mag → raised_from p left cell s mag ≡ []
    unfolding raised_from
    mag_none = no_magnitude next end step p.l p.n (cell, s) left cell

    pub mag_more : (mag : ℕ) → mag < p.l → (x : List ℕ) → x ≡ raised_by p cell (mag + 1) s
        → raised_from p left cell s mag ≡ syndromes_from p (left - 1) (cell + 1) x ++ raised_from p left cell s (mag + 1)
    unfolding syndromes_from raised_from
    mag_more mag h x e =
        at_magnitude next end step p.l p.n (cell, s) left cell mag h
        ∙ ap (λ (y : List ℕ). syndromes_from p (left - 1) (cell + 1) y ++ raised_from p left cell s (mag + 1)) (sym e)
