-- Operations between messages and numbers that answer wrongly do not meet their clauses. Witnesses: the transponder code 2233 on
-- six-level cells, and its message 1 0 2 4 1 0.
use mathlib.Core.Path.{◌≡◌, refl, sym, ap, ◌∙◌}
use mathlib.Core.List.{List, [], ◌∷◌}
use Prim.Native.Nat.{ℕ, ◌≤◌}
use native.Mathlib.Omega.{arith}
use Rattle.definitions.specs.Answers.{Answer, given, refused, Result, number}
use Rattle.definitions.specs.Codes.{Code, code_of}
use Rattle.definitions.specs.Patterns.{pattern_count}
use Rattle.definitions.specs.Messages.{symbols_fit}
use Rattle.definitions.specs.CodeOperations.{in_range, open_code, encode_code}
use Rattle.definitions.specs.MessageNumbers.{radix_product, message_number, number_message}
use Rattle.definitions.specs.MessageNumberOperations.{open_numbered, message_of_number, number_of_message, MessageMade, NumberMade}
use Rattle.definitions.specs.Examples.{lent}
use Rattle.definitions.specs.FurtherExamples.{transponder}

abbrev message : List ℕ
message = 1 ∷ 0 ∷ 2 ∷ 4 ∷ 1 ∷ 0 ∷ []

pub code : Code
code = code_of transponder

has_number : number_of_message transponder message ≡ given 2233
unfolding transponder in_range pattern_count open_code symbols_fit radix_product message_number open_numbered number_of_message
has_number = refl

has_message : message_of_number transponder 2233 (lent 6) ≡ record { answer = given tt; out = message }
unfolding transponder in_range pattern_count open_code radix_product number_message open_numbered message_of_number
has_message = refl

-- another message: with the first symbol most significant, with one radix for all cells, the buffer as lent
pub other-message : (out : List ℕ) → (out ≡ message → ⊥) → MessageMade transponder code 2233 (given tt) out → ⊥
other-message out other h = other (sym (h.only message has_number))

-- a symbol that is not below its radix, whatever the number
pub no_message : (x : ℕ) → MessageMade transponder code x (given tt) (lent 6) → ⊥
unfolding code transponder
no_message x h = let b = h.is_message.levels.0 in omega arith

-- another number
pub other-value : (y : ℕ) → (y ≡ 2233 → ⊥) → NumberMade transponder code message (given y) → ⊥
other-value y other h = other (let e = h.made in let same : y ≡ h.x = cc in same ∙ sym (h.only 2233 (lent 6) has_message))

-- one number for two messages
pub one_for_two_messages : (y : ℕ) (s t : List ℕ) → NumberMade transponder code s (given y) → NumberMade transponder code t (given y) → s ≡ t
unfolding code transponder
one_for_two_messages y s t h g =
    let e = h.made in
    let f = g.made in
    let same : h.x ≡ g.x = cc in
    ap (λ (r : Result (Unit {0})). r.out) (sym (h.back (lent 6) refl) ∙ ap (λ (x : ℕ). message_of_number transponder x (lent 6)) same ∙ g.back (lent 6) refl)

module _ (b : List ℕ) (p : Code) where
  -- a number or a message refused that fits
  pub refuses_number : (x k : ℕ) (out : List ℕ) → MessageMade b p x (refused k) out → ⊥
  refuses_number x k out h = let e = h.made in let z : ◌≡◌ {A = ℕ} 0 1 = cc in omega arith

  pub refuses_message : (k : ℕ) (s : List ℕ) → NumberMade b p s (refused k) → ⊥
  refuses_message k s h = let e = h.made in let z : ◌≡◌ {A = ℕ} 0 1 = cc in omega arith

  -- one message for two numbers
  pub one_for_two_numbers : (x y : ℕ) (a : Answer (Unit {0})) (out : List ℕ) → MessageMade b p x a out → MessageMade b p y a out → x ≡ y
  one_for_two_numbers x y a out h g = let e = sym h.back ∙ g.back in cc

  -- a message that writing refuses with 9
  pub refused_9 : (x : ℕ) (a : Answer (Unit {0})) (out cells : List ℕ) → (encode_code b out cells).answer ≡ refused 9 → MessageMade b p x a out → ⊥
  refused_9 x a out cells e h = h.writable cells (ap number e)

  -- a number that is not below the product
  pub above-product : (y : ℕ) (s : List ℕ) → radix_product p ≤ y → NumberMade b p s (given y) → ⊥
  above-product y s l h = let e = h.made in let same : y ≡ h.x = cc in omega (arith, h.below, same)
