-- How a chain of refusals is passed: each of its tests in turn.
use mathlib.Core.Path.{◌≡◌, refl}
use mathlib.Core.Bool.{Bool, true, false, ◌&&◌, not}
use mathlib.Core.List.{List}
use Prim.Native.Nat.{ℕ, ◌<◌}
use native.Mathlib.Omega.{arith}
use lib.Dec.{T, eqb, eqb→eq}
use lib.ListN.{length}
use Rattle.definitions.specs.Words.{all_below, EachCell}
use Rattle.definitions.specs.Answers.{Answer, given, refused, refused_at, Result, refuse◌when◌else◌, after}
use Rattle.definitions.proofs.Tests.{and_left, and_right, below_each}
use Rattle.definitions.proofs.Beginning.{operation}
use Rattle.code_theorems.proofs.Deciding.{result-given}

module _ {A : Type 0} where
  -- what is given was not refused
  pub not_refused : (k : ℕ) (t : Bool) (a : Answer A) (x : A) → (refuse k when t else a) ≡ given x → (t ≡ false) × (a ≡ given x)
  not_refused k true a x e = let z : ◌≡◌ {A = ℕ} 0 1 = cc in absurd (omega arith)
  not_refused k false a x e = (refl, e)

  pub passed : (k : ℕ) (t : Bool) (a : Answer A) (x : A) → (refuse k when not t else a) ≡ given x → T t × (a ≡ given x)
  passed k true a x e = (tt, e)
  passed k false a x e = let z : ◌≡◌ {A = ℕ} 0 1 = cc in absurd (omega arith)

pub is_true : (t : Bool) → T t → t ≡ true
is_true true h = refl
is_true false h = absurd h

-- what follows something given was given something
pub after-given : {A B : Type 0} (a : Answer A) (f : A → Answer B) (y : B) → after a f ≡ given y → (x : A) × (a ≡ given x) × (f x ≡ given y)
after-given (given x) f y e = (x, refl, e)
after-given (refused k) f y e = let z : ◌≡◌ {A = ℕ} 0 1 = cc in absurd (omega arith)
after-given (refused_at k j) f y e = let z : ◌≡◌ {A = ℕ} 0 1 = cc in absurd (omega arith)

-- where an operation gives something, the description opened, the input x and the output buffer fitted, and what was left gave it
module _ {A O : Type 0} (opening : Answer O) (x out : List ℕ) (read written : O → ℕ) (left : O → Answer (A × List ℕ)) where
  abbrev whole : Result A
  whole = operation opening x out read written left

  pub given-fits :
      (k : A) → whole.answer ≡ given k
      → (o : O) × (opening ≡ given o) × (length x ≡ read o) × (length out ≡ written o) × (left o ≡ given (k, whole.out))
  given-fits k e =
      let g = result-given _ out k e in
      let (o, opens, e₁) = after-given opening _ _ g in
      let (h, e₂) = passed 8 (eqb (length x) (read o) && eqb (length out) (written o)) _ _ e₁ in (
        o,
        opens,
        eqb→eq (length x) (read o) (and_left (eqb (length x) (read o)) (eqb (length out) (written o)) h),
        eqb→eq (length out) (written o) (and_right (eqb (length x) (read o)) (eqb (length out) (written o)) h),
        e₂,
      )

-- where decoding gives a count, the levels were below q: codes and stacks alike
module _ {O : Type 0} (opening : Answer O) (n q : O → ℕ) (decoding : O → Answer (ℕ × List ℕ)) (y out : List ℕ) where
  abbrev rest : O → Answer (ℕ × List ℕ)
  rest o = refuse 10 when not (all_below (q o) y) else decoding o

  pub given_read :
      (k : ℕ) → (operation opening y out n n rest).answer ≡ given k
      → (o : O) × (opening ≡ given o) × (length y ≡ n o) × (length out ≡ n o) × EachCell (λ v. v < q o) y
  given_read k e =
      let (o, opens, ly, lo, e₁) = given-fits opening y out n n rest k e in
      let (h, _) = passed 10 (all_below (q o) y) _ _ e₁ in
      (o, opens, ly, lo, below_each (q o) y h)
