-- Labels: labelings of physical states with levels (document 001, section III). A label table "gives the level of each state":
-- its length is q, and its entry s is the level of state s.
use Rattle.std.specs.Prelude.{◌≡◌, Bool, true, false, ◌&&◌, not, cond, List, [], ◌∷◌, map, ℕ, suc, ◌-◌, ◌/◌, ◌<◌, eqb, length}
use Rattle.std.specs.Int.Bits.{bit_xor}
use Rattle.definitions.specs.Words.{at, up_from, all_below, EachCell}
use Rattle.definitions.specs.PowersOfTwo.{log2, bit, from_bits}

-- "Gray (kind 2, s xor floor(s/2))"
unfoldable pub gray : ℕ → ℕ
gray s = bit_xor s (s / 2)

-- "reversed (kind 3, the bits of s in opposite order)": of m bits, the level's bit j is the state's bit m - 1 - j
unfoldable pub reversed : ℕ → ℕ → ℕ
reversed m s = from_bits m (λ j. bit s (m - 1 - j))

-- the level of state s of q: "straight (kind 1, level s)", Gray, reversed
abbrev pub made_level : ℕ → ℕ → ℕ → ℕ
made_level kind q s = cond (eqb kind 1) s (cond (eqb kind 2) (gray s) (reversed (log2 q) s))

unfoldable pub made_table : ℕ → ℕ → List ℕ
made_table kind q = map (made_level kind q) (up_from 0 q)

-- a permutation: each entry is a level below q, and no two states have one level
pub record Permutation (table : List ℕ) : Type 0 where
  pub levels : EachCell (λ v. v < length table) table
  pub apart : (i j : ℕ) → i < length table → j < length table → at table i ≡ at table j → i ≡ j

-- as a test
abbrev pub occurs : ℕ → List ℕ → Bool
occurs v [] = false
occurs v (x ∷ xs) = cond (eqb v x) true (occurs v xs)

abbrev pub none_twice : List ℕ → Bool
none_twice [] = true
none_twice (x ∷ xs) = not (occurs x xs) && none_twice xs

unfoldable pub is_permutation : List ℕ → Bool
is_permutation table = all_below (length table) table && none_twice table

-- from a state to its level
abbrev pub level_of : List ℕ → ℕ → ℕ
level_of table s = at table s

-- from a level to its state: the first place in the table at which the level stands
abbrev pub state_of : List ℕ → ℕ → ℕ
state_of [] l = 0
state_of (x ∷ xs) l = cond (eqb x l) 0 (suc (state_of xs l))
