-- One error pattern of a search: its risen cells as a word, what they leave of a syndrome, and the test of a pattern.
use Rattle.std.specs.Prelude.{◌≡◌, Bool, true, false, cond, ◌&&◌, List, [], ◌∷◌, map, ℕ, zero, suc, ◌+◌, ◌%◌, ◌<◌, ◌≤◌, eqb, length, get_or}
use Rattle.definitions.specs.Words.{at, up_from, same_word, nowhere_above, subtract}
use Rattle.definitions.specs.Codes.{Code}
use Rattle.definitions.specs.Codewords.{syndrome_entry, syndrome, is_codeword}
use Rattle.opening.specs.Viewed.{code}
use Rattle.candidate_patterns.specs.declared.Rise.{Rise}
use Rattle.candidate_patterns.specs.declared.Risen.{Risen}
use Rattle.candidate_patterns.specs.declared.asked.Asked.{Asked}

-- the magnitude g at cell c, 0 at every other
abbrev pub magnitude_of : ℕ → ℕ → ℕ → ℕ
magnitude_of c g i = cond (eqb c i) g 0

abbrev pub or_else : ℕ → ℕ → ℕ
or_else zero b = b
or_else (suc a) b = suc a

-- the magnitude of cell i, from the first rise that gives it one: a choice that is not made has the magnitude 0
abbrev pub magnitude_in : List Rise → ℕ → ℕ
magnitude_in [] i = 0
magnitude_in (r ∷ rs) i = or_else (magnitude_of r.cell r.magnitude i) (magnitude_in rs i)

unfoldable pub magnitude_at : Risen → ℕ → ℕ
magnitude_at k i = magnitude_in k.rises i

-- the choices as a word of n cells
unfoldable pub word_of : ℕ → Risen → List ℕ
word_of n k = map (magnitude_at k) (up_from 0 n)

abbrev pub no_rise : Rise
no_rise = record { cell = 0; magnitude = 0 }

-- no choice made: the empty pattern
abbrev pub unrisen : Risen
unrisen = record { rises = no_rise ∷ no_rise ∷ no_rise ∷ [] }

abbrev pub rise_at : Risen → ℕ → Rise
rise_at k j = get_or k.rises j no_rise

-- one choice more, before the others
abbrev pub added : Risen → ℕ → ℕ → Risen
added k c g = record { rises = record { cell = c; magnitude = g } ∷ rise_at k 0 ∷ rise_at k 1 ∷ [] }

-- the pattern e has the syndrome s, which an array holds in its first r entries
unfoldable pub has_syndrome : Code → List ℕ → List ℕ → Bool
has_syndrome p s e = same_word (syndrome p e) (map (at s) (up_from 0 p.r))

-- the test of a pattern: its syndrome and, where a codeword is asked for, that it is nowhere above y and leaves a codeword of it
abbrev pub test_of : Bool → Code → List ℕ → List ℕ → List ℕ → Bool
test_of false p s y e = has_syndrome p s e
test_of true p s y e = has_syndrome p s e && nowhere_above e y && is_codeword p (subtract y e)

-- what the search for a tests a pattern for
abbrev pub test_for : Asked → List ℕ → Bool
test_for a = test_of a.codeword (code a.code) a.s a.word.now

-- the entries of s are a syndrome's: below M, and 0 from the r-th on
pub record SyndromeInRange (p : Code) (s : List ℕ) : Type 0 where
  pub below : (i : ℕ) → at s i < p.M
  pub past : (i : ℕ) → p.r ≤ i → at s i ≡ 0

-- the choices so far are of cells before `cell`, and `left` more can be made
pub record Chosen (k : Risen) (left cell : ℕ) : Type 0 where
  pub few : left ≤ 3
  pub three : length k.rises ≡ 3
  pub free : (j : ℕ) → 3 ≤ j + left → (rise_at k j).magnitude ≡ 0
  pub before : (i : ℕ) → cell ≤ i → magnitude_at k i ≡ 0

-- what the choices k leave of the syndrome s
pub record Remains (p : Code) (s : List ℕ) (k : Risen) (rest : List ℕ) : Type 0 where
  pub below : (i : ℕ) → at rest i < p.M
  pub sum : (i : ℕ) → (at rest i + syndrome_entry p (word_of p.n k) i) % p.M ≡ at s i
