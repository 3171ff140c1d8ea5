-- Acceptance of a code: as a proposition, and as a test.
use Rattle.std.specs.Prelude.{◌≡◌, Bool, true, false, ◌&&◌, not, List, [], ◌∷◌, map, ℕ, ◌<◌}
use Rattle.definitions.specs.Words.{same_word}
use Rattle.definitions.specs.Codes.{Code}
use Rattle.definitions.specs.Codewords.{syndrome_entry, syndrome}
use Rattle.definitions.specs.Patterns.{Pattern, patterns_of}

-- "no two different patterns, taken as rows, have all residues equal"
abbrev pub Accepted : Code → Type 0
Accepted p =
    (a b : List ℕ) → Pattern p a → Pattern p b → ((k : ℕ) → k < p.r → syndrome_entry p a k ≡ syndrome_entry p b k) → a ≡ b

abbrev pub among : List ℕ → List (List ℕ) → Bool
among s [] = false
among s (x ∷ xs) = elim (same_word s x) [ true ↦ true | false ↦ among s xs ]

abbrev pub all_different : List (List ℕ) → Bool
all_different [] = true
all_different (x ∷ xs) = not (among x xs) && all_different xs

unfoldable pub accepted : Code → Bool
accepted p = all_different (map (syndrome p) (patterns_of p))
