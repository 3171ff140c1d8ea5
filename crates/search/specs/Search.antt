-- The search for the first error pattern: the choices so far, and the patterns that are still to be tried.
use Rattle.std.specs.Prelude.{◌≡◌, Some, None, Bool, true, false, List, [], ◌∷◌, ◌++◌, map, ℕ, ◌+◌, ◌-◌, ◌≤◌}
use Rattle.std.specs.Prelude as std
use Rattle.std.proofs.Common.{ControlFlow, Continue, Break}
use Rattle.std.proofs.Math.Option.{Option, none, some}
use Rattle.definitions.specs.Words.{up_from, weight}
use Rattle.definitions.specs.Codes.{Code}
use Rattle.definitions.specs.Patterns.{of_weight, prefixed_by_each, patterns, magnitudes, patterns_of}
use Rattle.definitions.specs.Tried.{place_of_first}
use Rattle.opening.specs.Viewed.{code}
use Rattle.candidate_patterns.specs.declared.Risen.{Risen}
use Rattle.candidate_patterns.specs.Candidates.{word_of, Chosen, Remains}
use Rattle.candidate_patterns.specs.declared.asked.Asked.{Asked}
use Rattle.candidate_patterns.specs.Candidates.{test_for}
use Rattle.search.specs.declared.Choices.{Choices}
use Rattle.search.specs.declared.Pattern.{Pattern}

-- the choices k are of cells before the next, and leave rest of the syndrome
pub record Reached (a : Asked) (k : Choices) (rest : List ℕ) : Type 0 where
  pub chosen : Chosen k.risen k.left k.cell
  pub cells : k.cell ≤ a.code.n
  pub remains : Remains (code a.code) a.s k.risen rest

-- the patterns with the choices k and `left` more of cells from `cell` on
unfoldable pub cells_from : Code → Risen → ℕ → ℕ → List (List ℕ)
cells_from p k left cell = map (λ e. word_of cell k ++ e) (of_weight (magnitudes p) left (p.n - cell))

-- those that choose `cell` next, with a magnitude above `mag`
unfoldable pub magnitudes_from : Code → Risen → ℕ → ℕ → ℕ → List (List ℕ)
magnitudes_from p k left cell mag =
    map (λ e. word_of cell k ++ e) (prefixed_by_each (up_from (mag + 1) (p.l - mag)) (of_weight (magnitudes p) (left - 1) (p.n - (cell + 1))))

abbrev pub cells_left : Asked → Choices → List (List ℕ)
cells_left a k = cells_from (code a.code) k.risen k.left k.cell

abbrev pub magnitudes_left : Asked → Choices → List (List ℕ)
magnitudes_left a k = magnitudes_from (code a.code) k.risen k.left k.cell 0

module _ (f : List ℕ → Bool) where
  abbrev pub pick_sought : Bool → List ℕ → ℕ → Option (List ℕ) × ℕ → Option (List ℕ) × ℕ
  pick_sought true e t rest = (some e, t)
  pick_sought false e t rest = rest

  -- the first of a list that passes the test, and how many were tried, after t others
  unfoldable pub seek : List (List ℕ) → ℕ → Option (List ℕ) × ℕ
  seek [] t = (none, t)
  seek (e ∷ es) t = let rest = seek es (t + 1) in pick_sought (f e) e (t + 1) rest

-- none with at most one risen cell passes, and t is their number
abbrev pub NoneWithOne : Asked → ℕ → Type 0
NoneWithOne a t = seek (test_for a) (patterns (magnitudes (code a.code)) 1 a.code.n) 0 ≡ (none, t)

-- what a part of the search gives
abbrev pub Sought : Type 0
Sought = ControlFlow (Risen × ℕ) ℕ

-- and this as a word of n cells, and how many were tried
abbrev pub sought_as : ℕ → Sought → Option (List ℕ) × ℕ
sought_as n (Break x) = (some (word_of n x.0), x.1)
sought_as n (Continue t) = (none, t)

-- the pattern found, as a word of n cells
abbrev pub found_word : ℕ → std.Option Pattern → Option (List ℕ)
found_word n (Some x) = some (word_of n x.risen)
found_word n None = none

-- a found pattern's count is its weight, and tried is the place of the first pattern that passes the test f
abbrev pub CountsOf : Code → (List ℕ → Bool) → std.Option Pattern → Type 0
CountsOf p f (Some x) = (x.count ≡ weight (word_of p.n x.risen)) × (x.tried ≡ place_of_first f (patterns_of p))
CountsOf p f None = Unit {0}
