-- Decoding a received word: document 01's reading a row.
use Rattle.std.specs.Prelude.{Bool, true, false, ◌&&◌, List, [], ◌∷◌, ℕ}
use Rattle.std.proofs.Math.Option.{Option, none, some}
use Rattle.definitions.specs.Words.{same_word, nowhere_above, subtract, weight}
use Rattle.definitions.specs.Answers.{Answer, given, refused}
use Rattle.definitions.specs.Codes.{Code}
use Rattle.definitions.specs.Codewords.{syndrome, is_codeword}
use Rattle.definitions.specs.Patterns.{patterns_of}

-- the first entry of a list that passes a test
module _ {A : Type 0} where
  abbrev pub pick_first : Bool → A → Option A → Option A
  pick_first true a rest = some a
  pick_first false a rest = rest

  abbrev pub first : (A → Bool) → List A → Option A
  first f [] = none
  first f (x ∷ xs) = let rest = first f xs in pick_first (f x) x rest

-- the pattern's syndrome equals the word's
unfoldable pub same_syndrome : Code → List ℕ → List ℕ → Bool
same_syndrome p y e = same_word (syndrome p e) (syndrome p y)

-- "whose residues equal the row's, that is nowhere above the row, and whose subtraction leaves a codeword". Subtraction stops at 0, so
-- without the second test a pattern above the row could seem to fit
unfoldable pub fits : Code → List ℕ → List ℕ → Bool
fits p y e = same_syndrome p y e && nowhere_above e y && is_codeword p (subtract y e)

-- the count is the pattern's weight; 11 no answer
abbrev pub decoded_by : List ℕ → Option (List ℕ) → Answer (ℕ × List ℕ)
decoded_by y none = refused 11
decoded_by y (some e) = given (weight e, subtract y e)

-- the count and the levels given back
unfoldable pub decode : Code → List ℕ → Answer (ℕ × List ℕ)
decode p y = decoded_by y (first (fits p y) (patterns_of p))
