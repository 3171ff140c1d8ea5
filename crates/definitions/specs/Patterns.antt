-- Error patterns: document 01's patterns, their order and their number. A pattern is a whole word of magnitudes (document 01: rises).
use Rattle.std.specs.Prelude.{◌≡◌, ◌⊎◌, List, [], ◌∷◌, ◌++◌, ℕ, zero, suc, ◌+◌, ◌*◌, ◌^◌, ◌≤◌, ◌<◌, length}
use Rattle.definitions.specs.Words.{sum_to, up_from, weight, EachCell}
use Rattle.definitions.specs.Codes.{Code}

-- each word of a list with v in front
abbrev pub prefixed : ℕ → List (List ℕ) → List (List ℕ)
prefixed v [] = []
prefixed v (e ∷ es) = (v ∷ e) ∷ prefixed v es

-- first with one magnitude in front, then with the next
abbrev pub prefixed_by_each : List ℕ → List (List ℕ) → List (List ℕ)
prefixed_by_each [] es = []
prefixed_by_each (v ∷ vs) es = prefixed v es ++ prefixed_by_each vs es

-- the patterns of n cells of which w are risen: those whose first cell is risen come first, by its magnitude
abbrev pub of_weight : List ℕ → ℕ → ℕ → List (List ℕ)
of_weight mags zero zero = [] ∷ []
of_weight mags (suc w) zero = []
of_weight mags zero (suc n) = prefixed 0 (of_weight mags zero n)
of_weight mags (suc w) (suc n) = prefixed_by_each mags (of_weight mags w n) ++ prefixed 0 (of_weight mags (suc w) n)

-- at most t cells risen, fewer first
abbrev pub patterns : List ℕ → ℕ → ℕ → List (List ℕ)
patterns mags zero n = of_weight mags 0 n
patterns mags (suc t) n = patterns mags t n ++ of_weight mags (suc t) n

-- the magnitudes of a risen cell: 1 to l
abbrev pub magnitudes : Code → List ℕ
magnitudes p = up_from 1 p.l

-- the patterns of a code, in the order in which they are tried
unfoldable pub patterns_of : Code → List (List ℕ)
patterns_of p = patterns (magnitudes p) p.t p.n

-- C(n, i): the ways to choose i of n cells
abbrev pub binomial : ℕ → ℕ → ℕ
binomial n zero = 1
binomial zero (suc i) = 0
binomial (suc n) (suc i) = binomial n i + binomial n (suc i)

-- document 01's P
unfoldable pub pattern_count : Code → ℕ
pattern_count p = sum_to (suc p.t) (λ i. binomial p.n i * p.l ^ i)

-- "gives each cell a rise of 0 to l, at most t of them not 0"
pub record Pattern (p : Code) (e : List ℕ) : Type 0 where
  pub long : length e ≡ p.n
  pub each : EachCell (λ v. v ≤ p.l) e
  pub few : weight e ≤ p.t

-- the risen cells of a pattern and their magnitudes, from the cell numbered i on
abbrev pub risen_from : ℕ → List ℕ → List (ℕ × ℕ)
risen_from i [] = []
risen_from i (zero ∷ e) = risen_from (suc i) e
risen_from i (suc v ∷ e) = (i, suc v) ∷ risen_from (suc i) e

-- the smaller cell, or the same cell with the smaller magnitude
abbrev pub Smaller : ℕ × ℕ → ℕ × ℕ → Type 0
Smaller a b = (a.0 < b.0) ⊎ ((a.0 ≡ b.0) × (a.1 < b.1))

-- lexicographically smaller, of equally many
abbrev pub Lower : List (ℕ × ℕ) → List (ℕ × ℕ) → Type 0
Lower [] ys = ⊥
Lower (x ∷ xs) [] = ⊥
Lower (x ∷ xs) (y ∷ ys) = Smaller x y ⊎ ((x ≡ y) × Lower xs ys)

-- the order of patterns: fewer risen cells; then the risen cells from cell 1 upward, each with its magnitude
abbrev pub Before : List ℕ → List ℕ → Type 0
Before e f = (weight e < weight f) ⊎ ((weight e ≡ weight f) × Lower (risen_from 1 e) (risen_from 1 f))
