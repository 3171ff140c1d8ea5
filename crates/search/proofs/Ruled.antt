-- The last choice where a filter rules out a cell, or all cells from one on.
use mathlib.Core.Path.{◌≡◌, refl, sym, ap, ◌∙◌}
use mathlib.Core.Bool.{Bool, false}
use mathlib.Core.List.{List, [], ◌∷◌, ◌++◌}
use Prim.Native.Nat.{ℕ, zero, suc, ◌+◌, ◌*◌, ◌-◌, ◌≤◌, ◌<◌}
use native.Mathlib.Nat.{add-zero, zero-mul, add-mul, one-mul}
use native.Mathlib.Omega.{arith}
use Rattle.definitions.specs.Codes.{Code}
use Rattle.opening.specs.Viewed as viewed
use Rattle.candidate_patterns.specs.declared.Risen.{Risen}
use Rattle.candidate_patterns.specs.Candidates.{word_of, added, Chosen, Remains, SyndromeInRange}
use Rattle.candidate_patterns.proofs.Choices.{chosen_later, chosen-next, chosen-added}
use Rattle.candidate_patterns.proofs.Tests.{misses}
use Rattle.search_filters.specs.Filters.{NoneAt, NoneFrom}
use mathlib.Core.Option.{Option, none}
use Rattle.candidate_patterns.specs.declared.asked.Asked.{Asked}
use Rattle.std.specs.Prelude as std
use Rattle.std.specs.Prelude.{IfSome, IsSomeAnd}
use Rattle.std.proofs.Common.{Bor, Continue}
use Rattle.definitions.specs.Words.{at}
use Rattle.search_filters.specs.Filters.{hash_of, LastCells}
use Rattle.search_filters.proofs.Marks.{table_rules_out}
use Rattle.search.specs.declared.Choices.{Choices}
use Rattle.search.specs.Search.{Reached, Sought, cells_from, cells_left, magnitudes_from, seek, sought_as}
use Rattle.candidate_patterns.specs.Candidates.{test_for}
use Rattle.search.proofs.Order.{cell_more, mag_more, all_chosen, one_miss, cell_none, mag_none, seek_none, seek_skip}

pub tried_as : (u v : ℕ) → u ≡ v → ◌≡◌ {A = Option (List ℕ) × ℕ} (none, u) (none, v)
tried_as u v = ap (λ (w : ℕ). (none, w))

module _ (p : Code) (k : Risen) (f : List ℕ → Bool) where
  -- no magnitude of cell c above `mag` passes
  mags_fail :
      (d c mag t : ℕ) → p.l - mag ≡ d → Chosen k 1 c → c < p.n → ((g : ℕ) → 1 ≤ g → g ≤ p.l → false ≡ f (word_of p.n (added k c g)))
      → (none, t + d) ≡ seek f (magnitudes_from p k 1 c mag) t
  mags_fail zero c mag t e ch h fails =
      tried_as _ _ (add-zero t) ∙ seek_none f t (magnitudes_from p k 1 c mag) (mag_none p k 1 c mag (omega arith))
  mags_fail (suc d) c mag t e ch h fails =
      tried_as _ _ (let q : t + suc d ≡ t + 1 + d = omega arith in q)
      ∙ mags_fail d c (mag + 1) (t + 1) (omega arith) ch h fails
      ∙ sym (one_miss f (magnitudes_from p k 1 c mag) (magnitudes_from p k 1 c (mag + 1)) (word_of p.n (added k c (mag + 1))) t split
      (sym (fails (mag + 1) (omega arith) (omega arith))))
    where
      split : magnitudes_from p k 1 c mag ≡ (word_of p.n (added k c (mag + 1)) ∷ []) ++ magnitudes_from p k 1 c (mag + 1)
      split =
          mag_more p k 1 c mag (omega arith) ch (omega arith)
          ∙ ap (λ (l : List (List ℕ)). l ++ magnitudes_from p k 1 c (mag + 1))
          (all_chosen p (added k c (mag + 1)) 0 (c + 1) refl (omega arith) (chosen-added k 1 c (mag + 1) ch (omega arith)).before)

  -- nor any of a cell from c on
  cells_fail :
      (d c t : ℕ) → p.n - c ≡ d → Chosen k 1 c
      → ((c' g : ℕ) → c ≤ c' → c' < p.n → 1 ≤ g → g ≤ p.l → false ≡ f (word_of p.n (added k c' g)))
      → (none, t + d * p.l) ≡ seek f (cells_from p k 1 c) t
  cells_fail zero c t e ch fails =
      tried_as _ _ (ap (λ (v : ℕ). t + v) (zero-mul p.l) ∙ add-zero t)
      ∙ seek_none f t (cells_from p k 1 c) (cell_none p k 1 c (omega arith) (omega arith))
  cells_fail (suc d) c t e ch fails =
      let h : c < p.n = omega arith in
      let none_here = mags_fail p.l c 0 t (omega arith) ch h (λ g a b. fails c g (omega arith) h a b) in
      tried_as _ _
      (let q : t + suc d * p.l ≡ t + p.l + d * p.l = omega (arith, add-mul d 1 p.l, one-mul p.l) in q)
      ∙ cells_fail d (c + 1) (t + p.l) (omega arith) (chosen-next k 1 c ch) (λ c' g a. fails c' g (omega arith))
      ∙ sym (seek_skip f _ _ _ t (cell_more p k 1 c (omega arith) h ch) (t + p.l) none_here)

pub range : (a : Asked) → SyndromeInRange (viewed.code a.code) a.s
range a = record { below = a.below; past = a.past }

module _
    (a : Asked) (k : Risen) (rest : List ℕ) (left : ℕ) (one : left ≡ 1) (r : Remains (viewed.code a.code) a.s k rest) (cell : ℕ)
    (ch : Chosen k left cell) where
  abbrev code : Code
  code = viewed.code a.code

  last : Chosen k 1 cell
  last = rw (← one) ch

  fails : (c g : ℕ) → Chosen k 1 c → c < a.code.n → (NoneAt code c rest) → 1 ≤ g → g ≤ a.code.l → false ≡ test_for a (word_of a.code.n (added k c g))
  fails c g h below nothing low high = misses a k rest r c g h below (nothing g low high)

  pub cell_ruled :
      cell < a.code.n → NoneAt code cell rest → (t : ℕ)
      → (none, t + a.code.l) ≡ seek (test_for a) (magnitudes_from code k left cell 0) t
  cell_ruled h nothing t = rw one (mags_fail code k (test_for a) a.code.l cell 0 t (omega arith) last h (λ g. fails cell g last h nothing))

  pub cells_ruled :
      NoneFrom code cell rest → (t : ℕ)
      → (none, t + (a.code.n - cell) * a.code.l) ≡ seek (test_for a) (cells_from code k left cell) t
  cells_ruled nothing t =
      rw one (cells_fail code k (test_for a) (a.code.n - cell) cell t refl last
      (λ c g from h. fails c g (chosen_later k 1 cell c from last) h (nothing c from h)))

-- no choice that is left can end a pattern, by the table of last cells
pub passed_over :
    (a : Asked) (k : Choices) (rest : List ℕ) (last : std.Option (Bor (List ℕ))) → Reached a k rest
    → IfSome last (λ x. LastCells (viewed.code a.code) x.now) → (k.left ≡ 1) × IsSomeAnd last (λ x. at x.now (hash_of (at rest)) ≤ k.cell)
    → (all u : ℕ) → all ≡ (a.code.n - k.cell) * a.code.l → u ≡ k.tried + all → (none, u) ≡ seek (test_for a) (cells_left a k) k.tried
passed_over a k rest last r table (one, past) all u ea eu =
    tried_as _ _ (eu ∙ ap (λ (v : ℕ). k.tried + v) ea)
    ∙ cells_ruled a k.risen rest k.left one r.remains k.cell r.chosen (table_rules_out (viewed.code a.code) last rest k.cell table past) k.tried

-- a part of the search went on
pub went_on :
    (n : ℕ) (s : Sought) (u v : ℕ) (r : Option (List ℕ) × ℕ) → s ≡ Continue v → u ≡ v → sought_as n s ≡ r → (none, u) ≡ r
went_on n s u v r es eu er = tried_as _ _ eu ∙ sym (ap (sought_as n) es) ∙ er
