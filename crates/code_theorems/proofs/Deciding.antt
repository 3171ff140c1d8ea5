-- The demands' predicates from what is shown of codes, and of stacks.
use mathlib.Core.Path.{◌≡◌, refl, sym, ap, ◌∙◌}
use mathlib.Core.Logic.{◌↔◌}
use mathlib.Core.List.{List}
use mathlib.Core.Option.{some, none-ne-some}
use Prim.Native.Nat.{ℕ}
use native.Mathlib.Omega.{arith}
use Rattle.definitions.specs.Words.{distance}
use Rattle.definitions.specs.Answers.{Answer, given, refused, refused_at, result, number}
use Rattle.definitions.specs.Demands.{Coding, WithinReach, OneToOne, OneCodeword, Recovered, DistanceDecides, SomeCodeword, KeepsMessages}
use Rattle.word_laws.proofs.Subtraction.{distance_self}

abbrev pub Decoded : Type 0
Decoded = Answer (ℕ × List ℕ)

pub given_pair : (k m : ℕ) (x c : List ℕ) → ◌≡◌ {A = Decoded} (given (k, x)) (given (m, c)) → (k ≡ m) × (x ≡ c)
given_pair k m x c e =
    let s : ◌≡◌ {A = ℕ × List ℕ} (k, x) (m, c) = cc in
    (ap (λ (w : ℕ × List ℕ). w.0) s, ap (λ (w : ℕ × List ℕ). w.1) s)

abbrev pub pair : ℕ → List ℕ → Decoded
pair k x = given (k, x)

-- an answer in the two forms: with what the buffer then holds, and apart from it
pub result-given : {A : Type 0} (d : Answer (A × List ℕ)) (out : List ℕ) (k : A) → (result d out).answer ≡ given k → d ≡ given (k, (result d out).out)
result-given {A} (given w) out k e = let s : w.0 ≡ k = cc in ap {B = Answer (A × List ℕ)} (λ (u : A). given (u, w.1)) s
result-given {A} (refused i) out k e = let z : ◌≡◌ {A = ℕ} 0 1 = cc in absurd (omega arith)
result-given {A} (refused_at i j) out k e = let z : ◌≡◌ {A = ℕ} 0 1 = cc in absurd (omega arith)

given-result : (d : Decoded) (out : List ℕ) (k : ℕ) (c : List ℕ) → d ≡ given (k, c) → ((result d out).answer ≡ given k) × ((result d out).out ≡ c)
given-result d out k c e =
    (ap (λ (a : Decoded). (result a out).answer) e, ap (λ (a : Decoded). (result a out).out) e)

result-number : (d : Decoded) (out : List ℕ) → number (result d out).answer ≡ number d
result-number (given w) out = refl
result-number (refused i) out = refl
result-number (refused_at i j) out = refl

module _ (K : Coding) (y : List ℕ) (d : Decoded)
    (only : (k : ℕ) (c : List ℕ) → d ≡ given (k, c) → WithinReach K y c × (k ≡ distance c y))
    (other : ((c : List ℕ) → WithinReach K y c → ⊥) → number d ≡ some 11)
    (out : List ℕ) where
  exactly_when : ((c : List ℕ) → WithinReach K y c → (k : ℕ) × (x : List ℕ) × (d ≡ given (k, x)))
      → ((k : ℕ) × ((result d out).answer ≡ given k)) ↔ ((c : List ℕ) × WithinReach K y c)
  exactly_when some_back = (
    (λ g. ((result d out).out, (only g.0 (result d out).out (result-given d out g.0 g.1)).0)),
    (λ g. let (k, x, e) = some_back g.0 g.1 in (k, (given-result d out k x e).0)),
  )

  other_when : ((c : List ℕ) → WithinReach K y c → (k : ℕ) × (x : List ℕ) × (d ≡ given (k, x)))
      → ((c : List ℕ) → WithinReach K y c → ⊥) ↔ (number (result d out).answer ≡ some 11)
  other_when some_back = (
    (λ h. result-number d out ∙ other h),
    (λ e c h. let (k, x, g) = some_back c h in none-ne-some 11 (sym (ap number (given-result d out k x g).0) ∙ e)),
  )

  pub decides : ((c : List ℕ) → WithinReach K y c → d ≡ given (distance c y, c)) → DistanceDecides K y (result d out).answer (result d out).out
  decides back = record {
    exactly = exactly_when (λ c h. (distance c y, c, back c h));
    back = λ c h. (given-result d out (distance c y) c (back c h)).1;
    count = λ c h. (given-result d out (distance c y) c (back c h)).0;
    one = λ c e h g. (given_pair (distance c y) (distance e y) c e (sym (back c h) ∙ back e g)).1;
    other = other_when (λ c h. (distance c y, c, back c h));
  }

  pub some_codeword :
      ((c : List ℕ) → WithinReach K y c → (k : ℕ) × (x : List ℕ) × (d ≡ given (k, x))) → SomeCodeword K y (result d out).answer (result d out).out
  some_codeword some_back = record {
    exactly = exactly_when some_back;
    back = λ k e. only k (result d out).out (result-given d out k e);
    other = other_when some_back;
  }

module _ (K : Coding) (inverse : OneToOne K) where
  pub one-codeword : (s : List ℕ) → K.is_message s → OneCodeword K s (given tt) (K.encoded s)
  one-codeword s h = record {
    written = refl;
    codeword = inverse.codeword s h;
    carries = inverse.carries s h;
    only = λ c g e. sym (inverse.again c g) ∙ ap K.encoded e;
  }

  pub recovered : (c : List ℕ) → K.codeword c → Recovered K c (given tt) (K.carried c)
  recovered c h = record { recovered = refl; is_message = inverse.is_message c h; again = inverse.again c h }

  pub keeps_messages :
      (y : List ℕ) (answer : Answer ℕ) (out : List ℕ) → (K.codeword y → K.reach y y) → DistanceDecides K y answer out → KeepsMessages K y answer out
  keeps_messages y answer out near h = record {
    kept = λ s m g.
        let w : WithinReach K y (K.encoded s) = (inverse.codeword s m, g) in
        (h.count (K.encoded s) w, h.back (K.encoded s) w, ap K.carried (h.back (K.encoded s) w) ∙ inverse.carries s m);
    still = λ c. (h.count y (c, near c) ∙ ap (λ (k : ℕ). to_given k) (distance_self y), h.back y (c, near c));
  }
    where
      to_given : ℕ → Answer ℕ
      to_given k = given k
