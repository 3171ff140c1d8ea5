-- What the answers of the operations mean in numbers and values.
use Rattle.std.specs.Prelude.{List, ◌++◌, ℕ, Result, Ok, Err, Option, None, Some, codes}
use Rattle.std.specs.Fmt.{decimal}
use Rattle.definitions.specs.Answers as answers
use Rattle.definitions.specs.Answers.{Answer, given, refused, refused_at}
use Rattle.answers.specs.declared.Refusal.{Refusal}
use Rattle.answers.specs.declared.Refusal.TheVariants as refusal
use Rattle.answers.specs.declared.Outcome.{Outcome}
use Rattle.answers.specs.declared.Outcome.TheVariants as outcome

-- a refusal's number
abbrev pub refusal_number : Refusal → ℕ
refusal_number refusal.TooShort = 1
refusal_number refusal.OutOfRange = 2
refusal_number refusal.WrongLength = 3
refusal_number refusal.EntryTooLarge = 4
refusal_number refusal.TooManyPatterns = 5
refusal_number refusal.NotAccepted = 6
refusal_number refusal.TooManyLevels = 7
refusal_number refusal.WrongBuffer = 8
refusal_number refusal.SymbolTooLarge = 9
refusal_number refusal.LevelTooLarge = 10
refusal_number refusal.NoCodewordInReach = 11
refusal_number (refusal.NoPatternInPlane j) = 11
refusal_number refusal.NotACodeword = 12
refusal_number refusal.NotAPermutation = 13
refusal_number refusal.NotAPowerOfTwo = 14
refusal_number refusal.WrongContents = 15
refusal_number refusal.WrongBody = 16
refusal_number refusal.TooManyMessages = 17
refusal_number refusal.NumberTooLarge = 18
refusal_number refusal.LeftoverBitSet = 19

-- the plane that a stack's 11 adds
abbrev pub refusal_plane : Refusal → Option ℕ
refusal_plane (refusal.NoPatternInPlane j) = Some j
refusal_plane x = None

-- a refusal in words
abbrev pub refusal_words : Refusal → List ℕ
refusal_words refusal.TooShort = codes "a body too short for its fields"
refusal_words refusal.OutOfRange = codes "a field, length, kind or entry out of range"
refusal_words refusal.WrongLength = codes "a body of another length than its fields ask"
refusal_words refusal.EntryTooLarge = codes "an entry of the matrix of M or more"
refusal_words refusal.TooManyPatterns = codes "more than 4,096 patterns"
refusal_words refusal.NotAccepted = codes "not accepted: two patterns share a syndrome"
refusal_words refusal.TooManyLevels = codes "a stack of more than 64 levels"
refusal_words refusal.WrongBuffer = codes "a buffer not of its exact length"
refusal_words refusal.SymbolTooLarge = codes "a symbol too large"
refusal_words refusal.LevelTooLarge = codes "a level, or a state, of q or more"
refusal_words refusal.NoCodewordInReach = codes "no codeword within reach"
refusal_words (refusal.NoPatternInPlane j) = codes "no codeword within reach: no pattern in plane " ++ decimal j
refusal_words refusal.NotACodeword = codes "not a codeword"
refusal_words refusal.NotAPermutation = codes "a label table that is no permutation"
refusal_words refusal.NotAPowerOfTwo = codes "q or floor(q/M) is no power of two"
refusal_words refusal.WrongContents = codes "an image whose contents are wrong"
refusal_words refusal.WrongBody = codes "a body refused by its test, or a reference"
refusal_words refusal.TooManyMessages = codes "more than 2^63 messages"
refusal_words refusal.NumberTooLarge = codes "a number that no message has"
refusal_words refusal.LeftoverBitSet = codes "a leftover bit of the last byte is set"

module _ {A : Type 0} where
  -- a refusal as an answer; the plane goes with a stack's 11
  abbrev pub refused_as : Refusal → Answer A
  refused_as (refusal.NoPatternInPlane j) = refused_at 11 j
  refused_as x = refused (refusal_number x)

  -- what an operation answered, whatever it gives
  abbrev pub answer_of : Result A Refusal → Answer A
  answer_of (Ok a) = given a
  answer_of (Err x) = refused_as x

  -- the same, with what is given as the definitions have it
  abbrev pub answer_with : {B : Type 0} → (B → A) → Result B Refusal → Answer A
  answer_with f (Ok b) = given (f b)
  answer_with f (Err x) = refused_as x

  -- an answer with what the output buffer holds
  abbrev pub leaves : Answer A → List ℕ → answers.Result A
  leaves a out = record { answer = a; out = out }

abbrev pub outcome_as : Outcome → Answer ℕ
outcome_as (outcome.Count k) = given k
outcome_as (outcome.Refused x) = refused_as x
