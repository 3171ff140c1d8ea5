-- Decoding with the pattern that the search found: its subtraction cell by cell, and its count.
use Rattle.std.proofs.Common.{◌≡◌, List, ℕ, ◌-◌, ◌<◌, length, true, Some, None, ap₂, sym, ◌∙◌, arith}
use Rattle.definitions.specs.Words.{at, subtract}
use Rattle.definitions.specs.Answers.{given, refused, result}
use Rattle.definitions.specs.Codes.{Code}
use Rattle.definitions.specs.Patterns.{patterns_of}
use Rattle.definitions.specs.Decoding.{first, decode}
use Rattle.definitions.specs.Tried.{tried}
use Rattle.syndrome.specs.Columns.{Syndrome}
use Rattle.candidate_patterns.specs.Candidates.{magnitude_at, word_of, test_of}
use Rattle.candidate_patterns.specs.declared.Risen.{Risen}
use Rattle.search.specs.Search.{found_word, CountsOf}
use Rattle.search.specs.declared.Pattern.{Pattern}
use Rattle.word_laws.proofs.Cells.{at-map2, length-map2}
use Rattle.candidate_patterns.proofs.Choices.{length-word, word_at}
use Rattle.candidate_patterns.proofs.Tests.{tests_fit}
use Rattle.answers.specs.Answering.{leaves}

module _ (y : List ℕ) (k : Risen) where
  pub subtract-long : length (subtract y (word_of (length y) k)) ≡ length y
  subtract-long = length-map2 (λ a b. a - b) y (word_of (length y) k) (sym (length-word (length y) k))

  pub subtract-at : (i v g : ℕ) → i < length y → v ≡ at y i → g ≡ magnitude_at k i → v - g ≡ at (subtract y (word_of (length y) k)) i
  subtract-at i v g h e f =
      ap₂ (λ (a b : ℕ). a - b) e (f ∙ sym (word_at (length y) k i h))
      ∙ sym (at-map2 (λ a b. a - b) y (word_of (length y) k) i h (omega (arith, length-word (length y) k)))

-- the pattern found, or that there is none, is the answer of decoding the word y with the syndrome s
module _ (p : Code) (y s lent : List ℕ) (is : Syndrome p y s) where
  pub when_found :
      (x : Pattern) → found_word p.n (Some x) ≡ first (test_of true p s y) (patterns_of p) → CountsOf p (test_of true p s y) (Some x)
      → (leaves (given x.count) (subtract y (word_of p.n x.risen)) ≡ result (decode p y) lent) × (x.tried ≡ tried p y)
  unfolding decode tried
  when_found x found counts = let e = tests_fit p y s is in (rw (← e, ← found, counts.0), rw (← e) counts.1)

  pub when_nothing : found_word p.n None ≡ first (test_of true p s y) (patterns_of p) → leaves (refused 11) lent ≡ result (decode p y) lent
  unfolding decode
  when_nothing found = let e = tests_fit p y s is in rw (← e, ← found)
