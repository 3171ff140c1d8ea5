-- The customer's demands, as predicates of an operation's answer and of what its output buffer holds when the call returns.
use Rattle.std.specs.Prelude.{◌≡◌, ◌↔◌, List, ℕ}
use Rattle.std.proofs.Math.Option.{some}
use Rattle.definitions.specs.Words.{distance}
use Rattle.definitions.specs.Answers.{Answer, given, refused, number}
use Rattle.definitions.specs.Codes.{Code}
use Rattle.definitions.specs.Codewords.{Codeword}
use Rattle.definitions.specs.Messages.{Message, encode, message}
use Rattle.definitions.specs.Stacks.{Stack}
use Rattle.definitions.specs.StackCodewords.{StackCodeword}
use Rattle.definitions.specs.StackMessages.{StackMessage, encode_word, stack_message}
use Rattle.definitions.specs.Reach.{Reach, StackReach}

-- what the demands speak of: codes and stacks alike
pub record Coding : Type 1 where
  pub codeword : List ℕ → Type 0
  -- of a word read and a codeword
  pub reach : List ℕ → List ℕ → Type 0
  pub is_message : List ℕ → Type 0
  pub encoded : List ℕ → List ℕ
  pub carried : List ℕ → List ℕ

abbrev pub of_code : Code → Coding
of_code p =
    record { codeword = Codeword p; reach = Reach p; is_message = Message p; encoded = encode p; carried = message p }

abbrev pub of_stack : Stack → Coding
of_stack S =
    record { codeword = StackCodeword S; reach = StackReach S; is_message = StackMessage S; encoded = encode_word S; carried = stack_message S }

-- demand 1, of a test of what opens: "accepted", or 6 in its listed case and in no other
pub record Tested (Accepted : Type 0) (answer : Answer (Unit {0})) : Type 0 where
  pub fit : (answer ≡ given tt) ↔ Accepted
  pub unfit : (answer ≡ refused 6) ↔ (Accepted → ⊥)

-- demand 2, of the definitions: messages and codewords correspond one to one
pub record OneToOne (K : Coding) : Type 0 where
  pub codeword : (s : List ℕ) → K.is_message s → K.codeword (K.encoded s)
  pub carries : (s : List ℕ) → K.is_message s → K.carried (K.encoded s) ≡ s
  pub is_message : (c : List ℕ) → K.codeword c → K.is_message (K.carried c)
  pub again : (c : List ℕ) → K.codeword c → K.encoded (K.carried c) ≡ c

-- demand 2, of writing the message s: "what is written is the one codeword that carries the message"
pub record OneCodeword (K : Coding) (s : List ℕ) (answer : Answer (Unit {0})) (out : List ℕ) : Type 0 where
  pub written : answer ≡ given tt
  pub codeword : K.codeword out
  pub carries : K.carried out ≡ s
  pub only : (c : List ℕ) → K.codeword c → K.carried c ≡ s → c ≡ out

-- demand 2, of recovering a message from the codeword c: "the message recovered from a codeword, written again, is that codeword"
pub record Recovered (K : Coding) (c : List ℕ) (answer : Answer (Unit {0})) (out : List ℕ) : Type 0 where
  pub recovered : answer ≡ given tt
  pub is_message : K.is_message out
  pub again : K.encoded out ≡ c

abbrev pub WithinReach : Coding → List ℕ → List ℕ → Type 0
WithinReach K y c = K.codeword c × K.reach y c

-- demand 3, of reading the word y: the distance decides
pub record DistanceDecides (K : Coding) (y : List ℕ) (answer : Answer ℕ) (out : List ℕ) : Type 0 where
  -- "given back exactly when some codeword is within reach"
  pub exactly : ((k : ℕ) × (answer ≡ given k)) ↔ ((c : List ℕ) × WithinReach K y c)
  -- "that codeword is the row given back"
  pub back : (c : List ℕ) → WithinReach K y c → out ≡ c
  -- "the count is the number of cells that differ"
  pub count : (c : List ℕ) → WithinReach K y c → answer ≡ given (distance c y)
  -- "no other codeword then is"
  pub one : (c d : List ℕ) → WithinReach K y c → WithinReach K y d → c ≡ d
  -- "every other such row is refused 11"
  pub other : ((c : List ℕ) → WithinReach K y c → ⊥) ↔ (number answer ≡ some 11)

-- what holds of each reading, of a stack's word too: what is given back is a codeword within reach, and the count is its distance
abbrev pub GivenWithinReach : Coding → List ℕ → Answer ℕ → List ℕ → Type 0
GivenWithinReach K y answer out = (k : ℕ) → answer ≡ given k → WithinReach K y out × (k ≡ distance out y)

-- what holds of reading a code's word without acceptance: all of demand 3 but that there is one codeword
pub record SomeCodeword (K : Coding) (y : List ℕ) (answer : Answer ℕ) (out : List ℕ) : Type 0 where
  pub exactly : ((k : ℕ) × (answer ≡ given k)) ↔ ((c : List ℕ) × WithinReach K y c)
  pub back : GivenWithinReach K y answer out
  pub other : ((c : List ℕ) → WithinReach K y c → ⊥) ↔ (number answer ≡ some 11)

-- kept messages, of reading the word y
pub record KeepsMessages (K : Coding) (y : List ℕ) (answer : Answer ℕ) (out : List ℕ) : Type 0 where
  -- whatever message was written, if its codeword is within reach, that codeword is given back and carries the message
  pub kept :
      (s : List ℕ)
      → K.is_message s
      → K.reach y (K.encoded s)
      → (answer ≡ given (distance (K.encoded s) y)) × (out ≡ K.encoded s) × (K.carried out ≡ s)
  -- a codeword is given back as it is
  pub still : K.codeword y → (answer ≡ given 0) × (out ≡ y)
