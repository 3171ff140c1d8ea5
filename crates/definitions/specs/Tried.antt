-- Patterns tried, to the number: document 02's wish 1. Document 01 leaves tried free, from 1 to P.
use Rattle.std.specs.Prelude.{◌≡◌, Bool, cond, ◌↔◌, ℕ, suc, ◌-◌, ◌≤◌, length}
use mathlib.Core.List.{List, [], ◌∷◌, Memᴰ}
use Rattle.definitions.specs.Words.{same_word, subtract, weight, EachPair}
use Rattle.definitions.specs.Answers.{Answer, given, after}
use Rattle.definitions.specs.Codes.{Code, code_of}
use Rattle.definitions.specs.Patterns.{patterns_of, pattern_count, Pattern, Before}
use Rattle.definitions.specs.Decoding.{fits}
use Rattle.definitions.specs.CodeOperations.{decode_code}

-- the place, counted from 1, of the first entry of a list that passes a test; one past the list where none passes
abbrev pub place_of_first : (List ℕ → Bool) → List (List ℕ) → ℕ
place_of_first f [] = 1
place_of_first f (x ∷ xs) = cond (f x) 1 (suc (place_of_first f xs))

-- the place of a pattern in document 01's order
unfoldable pub place_of : Code → List ℕ → ℕ
place_of p e = place_of_first (same_word e) (patterns_of p)

-- tried: the place of the first pattern that fits
unfoldable pub tried : Code → List ℕ → ℕ
tried p y = place_of_first (fits p y) (patterns_of p)

-- of reading: what is tried goes with a count, and a refused row has no tried
unfoldable pub tried_code : List ℕ → List ℕ → List ℕ → Answer ℕ
tried_code b y out = after (decode_code b y out).answer λ count. given (tried (code_of b) y)

-- e is the given pattern: a pattern nowhere above the word y, whose subtraction from y is x
pub record GivenPattern (p : Code) (y x e : List ℕ) : Type 0 where
  pub is_pattern : Pattern p e
  pub nowhere_above : EachPair (λ a b. b ≤ a) y e
  pub leaves : subtract y e ≡ x

-- no entry stands in the list again
abbrev pub Once : List (List ℕ) → Type 0
Once [] = Unit {0}
Once (x ∷ xs) = (Memᴰ x xs → ⊥) × Once xs

-- in words of the order alone: k patterns come before e, which are those of some list that has each of them once and nothing else
pub record PatternsBefore (p : Code) (e : List ℕ) (k : ℕ) : Type 0 where
  pub list : List (List ℕ)
  pub exactly : (f : List ℕ) → Memᴰ f list ↔ (Pattern p f × Before f e)
  pub once : Once list
  pub number : length list ≡ k

-- of a word y that is given back as x with k patterns tried
pub record GivenAt (p : Code) (y x : List ℕ) (k : ℕ) : Type 0 where
  -- "the given pattern"
  pub pattern : List ℕ
  pub subtracted : GivenPattern p y x pattern
  pub only : (e : List ℕ) → GivenPattern p y x e → e ≡ pattern
  -- "exactly the place, counted from 1, of the given pattern in document 01's order"
  pub place : k ≡ place_of p pattern
  -- k - 1 patterns come before it
  pub before : PatternsBefore p pattern (k - 1)
  pub least : 1 ≤ k
  pub most : k ≤ pattern_count p
  -- "a row mended by the empty pattern reports 1"
  pub empty : weight pattern ≡ 0 → k ≡ 1

-- wish 1, of reading the word y
abbrev pub TriedIsPlace : Code → List ℕ → Answer ℕ → List ℕ → Type 0
TriedIsPlace p y answer out = (k : ℕ) → answer ≡ given k → GivenAt p y out k
