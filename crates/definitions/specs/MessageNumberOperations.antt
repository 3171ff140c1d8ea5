-- The operations between messages and numbers, for every byte string and every buffer: document 02, wish 2.
use Rattle.std.specs.Prelude.{◌≡◌, not, List, ℕ, ◌^◌, ◌<◌, eqb, ltb, length}
use Rattle.std.proofs.Math.Option.{some}
use Rattle.definitions.specs.Answers.{Answer, given, Result, refuse◌when◌else◌, result, number, after}
use Rattle.definitions.specs.Codes.{Code}
use Rattle.definitions.specs.Messages.{Message, symbols_fit}
use Rattle.definitions.specs.CodeOperations.{open_code, encode_code}
use Rattle.definitions.specs.MessageNumbers.{radix_product, message_number, number_message}

-- both begin so: "17 when that product is above 2^63, after opening and the lengths". Description, and the length of the message's buffer
unfoldable pub open_numbered : List ℕ → ℕ → Answer Code
open_numbered b symbols =
    after (open_code b) λ p.
    refuse 8 when not (eqb symbols p.n) else
    refuse 17 when ltb (2 ^ 63) (radix_product p) else
    given p

-- "18 when the number is not below the product, after 17". Description, number, output buffer
unfoldable pub message_of_number : List ℕ → ℕ → List ℕ → Result (Unit {0})
message_of_number b x out =
    result
    (after (open_numbered b (length out)) λ p.
    refuse 18 when not (ltb x (radix_product p)) else
    given (tt, number_message p x))
    out

-- "a message symbol too large stays 9, also after 17". Description, message; what is given is the number
unfoldable pub number_of_message : List ℕ → List ℕ → Answer ℕ
number_of_message b s =
    after (open_numbered b (length s)) λ p.
    refuse 9 when not (symbols_fit p s) else
    given (message_number p s)

-- of making the message of the number x with the description b: what the buffer holds is the one message that has this number
pub record MessageMade (b : List ℕ) (p : Code) (x : ℕ) (answer : Answer (Unit {0})) (out : List ℕ) : Type 0 where
  pub made : answer ≡ given tt
  -- it can be written, and writing never answers 9 for it
  pub is_message : Message p out
  pub writable : (cells : List ℕ) → number (encode_code b out cells).answer ≡ some 9 → ⊥
  -- "number to message to number gives the number"
  pub back : number_of_message b out ≡ given x
  pub only : (s : List ℕ) → number_of_message b s ≡ given x → s ≡ out

-- of making the number of the message s: it is the one number that this message is made from
pub record NumberMade (b : List ℕ) (p : Code) (s : List ℕ) (answer : Answer ℕ) : Type 0 where
  pub x : ℕ
  pub made : answer ≡ given x
  pub below : x < radix_product p
  -- message to number to message gives the message
  pub back : (out : List ℕ) → length out ≡ p.n → message_of_number b x out ≡ record { answer = given tt; out = s }
  pub only : (y : ℕ) (out : List ℕ) → message_of_number b y out ≡ record { answer = given tt; out = s } → y ≡ x
