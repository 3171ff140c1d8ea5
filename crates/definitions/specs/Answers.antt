-- What operations answer, and what they leave in the output buffer.
use Rattle.std.specs.Prelude.{Bool, true, false, List, ℕ}
use Rattle.std.proofs.Math.Option.{Option, none, some}

-- What is given, or the number of the refusal; stack reading's 11 adds the plane.
pub data Answer (A : Type 0) : Type 0 where
  given : A → Answer A
  refused : ℕ → Answer A
  refused_at : ℕ → ℕ → Answer A

-- An answer, and what the output buffer holds when the call returns.
pub record Result (A : Type 0) : Type 0 where
  pub answer : Answer A
  pub out : List ℕ

-- given, and the buffer holds x
abbrev pub gives : List ℕ → Result (Unit {0})
gives x = record { answer = given tt; out = x }

infixr 5 refuse◌when◌else◌
module _ {A : Type 0} where
  -- the refusals of an operation stand in document 01's order: the first whose case holds is returned
  abbrev pub refuse◌when◌else◌ : ℕ → Bool → Answer A → Answer A
  refuse◌when◌else◌ k true a = refused k
  refuse◌when◌else◌ k false a = a

  -- "change no buffer": what is given comes with the buffer's new contents, and a refusal keeps the contents out
  abbrev pub result : Answer (A × List ℕ) → List ℕ → Result A
  result (given w) out = record { answer = given w.0; out = w.1 }
  result (refused k) out = record { answer = refused k; out = out }
  result (refused_at k j) out = record { answer = refused_at k j; out = out }

  -- the number of a refusal
  abbrev pub number : Answer A → Option ℕ
  number (given a) = none
  number (refused k) = some k
  number (refused_at k j) = some k

-- what follows once something is given; a refusal "ends the operation there"
abbrev pub after : {A B : Type 0} → Answer A → (A → Answer B) → Answer B
after (given a) f = f a
after (refused k) f = refused k
after (refused_at k j) f = refused_at k j
