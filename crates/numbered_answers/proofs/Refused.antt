-- The numbers of a refusal.
use Rattle.std.proofs.Common.{◌≡◌, refl, ◌≤◌, arith}
use Rattle.answers.specs.Answering.{refusal_number, refused_as}
use Rattle.answers.specs.declared.Refusal.{Refusal}
use Rattle.answers.specs.declared.Refusal.TheVariants as refusal
use Rattle.numbered_answers.specs.Numbers.{number_of}

-- a refusal's number is not 0
pub positive : (x : Refusal) → 1 ≤ refusal_number x
positive (refusal.NoPatternInPlane j) = omega arith
positive x = omega arith

pub refused-number : (A : Type 0) (x : Refusal) → number_of (refused_as {A = A} x) ≡ refusal_number x
refused-number A (refusal.NoPatternInPlane j) = refl
refused-number A x = refl
