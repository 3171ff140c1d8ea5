-- What follows a refusal, and what it leaves.
use Rattle.std.proofs.Common.{◌≡◌, refl, sym, subst, List, ℕ}
use Rattle.definitions.specs.Answers.{Answer, Result, result, after}
use Rattle.answers.specs.declared.Refusal.{Refusal}
use Rattle.answers.specs.declared.Refusal.TheVariants.{NoPatternInPlane}
use Rattle.answers.specs.Answering.{refused_as, leaves}

-- what follows a refusal is that refusal
pub after_refused : {A B : Type 0} → (x : Refusal) (f : A → Answer B) → after (refused_as x) f ≡ refused_as x
after_refused (NoPatternInPlane j) f = refl
after_refused x f = refl

-- and it keeps the buffer
pub result_refused : {A : Type 0} → (x : Refusal) (out : List ℕ) → result {A = A} (refused_as x) out ≡ leaves (refused_as x) out
result_refused (NoPatternInPlane j) out = refl
result_refused x out = refl

-- what holds of the definition's answer and buffer holds of those that equal them
pub carried : {A : Type 0} (Q : Answer A → List ℕ → Type 0) (r : Result A) {a : Answer A} {out : List ℕ} → leaves a out ≡ r → Q r.answer r.out → Q a out
carried {A} Q r e h = subst (λ (u : Result A). Q u.answer u.out) (sym e) h
