-- The syndromes of a code's patterns, in the order in which the patterns are listed. A syndrome is held in 16 entries, those past r being 0.
use Rattle.std.specs.Prelude.{List, [], ◌∷◌, map, ℕ, zero, suc, ◌+◌, ◌-◌, ◌%◌, replicate}
use Rattle.definitions.specs.Words.{at, up_from}
use Rattle.definitions.specs.Codes.{Code}
use Rattle.definitions.specs.Patterns.{prefixed_by_each, of_weight, patterns}
use Rattle.syndrome.specs.Columns.{column}

-- the syndrome s once a cell has risen by one
unfoldable pub raised : Code → ℕ → List ℕ → List ℕ
raised p cell s = map (λ k. (at s k + column p k cell) % p.M) (up_from 0 16)

-- the syndrome s once a cell has risen by a magnitude
unfoldable pub raised_by : Code → ℕ → ℕ → List ℕ → List ℕ
raised_by p cell zero s = s
raised_by p cell (suc v) s = raised p cell (raised_by p cell v s)

-- the syndrome s once the cells from the given one on have risen by e
unfoldable pub reached : Code → ℕ → List ℕ → List ℕ → List ℕ
reached p cell s [] = s
reached p cell s (v ∷ e) = reached p (cell + 1) (raised_by p cell v s) e

-- the patterns of n cells of which w are risen
abbrev pub choices : Code → ℕ → ℕ → List (List ℕ)
choices p w n = of_weight (up_from 1 p.l) w n

-- the syndromes reached from s by raising `left` of the cells from the given one on
unfoldable pub syndromes_from : Code → ℕ → ℕ → List ℕ → List (List ℕ)
syndromes_from p left cell s = map (reached p cell s) (choices p left (p.n - cell))

-- those that raise the given cell, by more than mag
unfoldable pub raised_from : Code → ℕ → ℕ → List ℕ → ℕ → List (List ℕ)
raised_from p left cell s mag =
    map (reached p cell s) (prefixed_by_each (up_from (mag + 1) (p.l - mag)) (choices p (left - 1) (p.n - (cell + 1))))

-- before any cell has risen
abbrev pub zero_syndrome : List ℕ
zero_syndrome = replicate 16 0

-- the syndromes of all patterns, fewer risen cells first
unfoldable pub syndromes : Code → List (List ℕ)
syndromes p = map (reached p 0 zero_syndrome) (patterns (up_from 1 p.l) p.t p.n)
