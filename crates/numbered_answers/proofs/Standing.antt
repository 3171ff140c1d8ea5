-- What holds of an answer holds of the one that its numbers stand for: the demands ask what is given, and a refusal's number.
use Rattle.std.proofs.Common.{◌≡◌, refl, sym, ◌∙◌, ◌↔◌, ℕ, List, arith}
use Rattle.std.proofs.Math.Option.{some}
use Rattle.std.specs.Prelude.{Result, Ok, Err}
use Rattle.definitions.specs.Answers.{Answer, given, refused, refused_at, number}
use Rattle.definitions.specs.Codes.{Code}
use Rattle.definitions.specs.PackingOperations.{Packed, Unpacked}
use Rattle.definitions.specs.MessageNumberOperations.{MessageMade, NumberMade}
use Rattle.definitions.specs.Demands.{Coding, Tested, OneCodeword, Recovered, DistanceDecides, SomeCodeword}
use Rattle.definitions.specs.Demands.{GivenWithinReach, KeepsMessages}
use Rattle.answers.specs.Answering.{refused_as, answer_of, answer_with, outcome_as}
use Rattle.answers.specs.declared.Refusal.{Refusal}
use Rattle.answers.specs.declared.Refusal.TheVariants as refusal
use Rattle.answers.specs.declared.Outcome.{Outcome}
use Rattle.answers.specs.declared.Outcome.TheVariants as outcome
use Rattle.numbered_answers.specs.Numbers.{number_of, count_of, ReadNumbered, ValueNumbered, answer_by, count_by}
use Rattle.numbered_answers.specs.declared.Reading.{Reading}
use Rattle.numbered_answers.specs.declared.Value.{Value}
use Rattle.numbered_answers.proofs.Refused.{positive, refused-number}

-- two answers that give the same and are refused by the same number
pub record Alike {A : Type 0} (a b : Answer A) : Type 0 where
  pub to : (k : A) → a ≡ given k → b ≡ given k
  pub from : (k : A) → b ≡ given k → a ≡ given k
  pub same : number a ≡ number b

module _ {A : Type 0} where
  alike_refl : (a : Answer A) → Alike a a
  alike_refl a = record { to = λ i e. e; from = λ i e. e; same = refl }

  alike_at : (k j : ℕ) → Alike {A = A} (refused_at k j) (refused k)
  alike_at k j = record {
    to = λ i e. (let z : ◌≡◌ {A = ℕ} 0 1 = cc in absurd (omega arith));
    from = λ i e. (let z : ◌≡◌ {A = ℕ} 0 1 = cc in absurd (omega arith));
    same = refl;
  }

-- the answer of reading and the one by its number and its count; what is refused has any count
count_alike : (x : Refusal) (count : ℕ) → Alike (refused_as x) (count_by (number_of (refused_as {A = ℕ} x)) count)
count_alike (refusal.NoPatternInPlane j) count = alike_at 11 j
count_alike x count = alike_refl (refused_as x)

pub read_alike : {B : Type 0} (f : B → ℕ) (a : Result B Refusal)
    → Alike (answer_with f a) (count_by (number_of (answer_with f a)) (count_of (answer_with f a)))
read_alike f (Ok b) = alike_refl (given (f b))
read_alike f (Err x) = count_alike x _

pub answer_alike : (a : Result ℕ Refusal) → Alike (answer_of a) (count_by (number_of (answer_of a)) (count_of (answer_of a)))
answer_alike (Ok k) = alike_refl (given k)
answer_alike (Err x) = count_alike x _

pub outcome_alike : (a : Outcome) → Alike (outcome_as a) (count_by (number_of (outcome_as a)) (count_of (outcome_as a)))
outcome_alike (outcome.Count k) = alike_refl (given k)
outcome_alike (outcome.Refused x) = count_alike x _

-- and of a test or of writing
write_alike : (a : Result (Unit {0}) Refusal) → Alike (answer_of a) (answer_by (number_of (answer_of a)))
write_alike (Ok tt) = alike_refl (given tt)
write_alike (Err (refusal.NoPatternInPlane j)) = alike_at 11 j
write_alike (Err x) = alike_refl (refused_as x)

module _ {A : Type 0} {a b : Answer A} (h : Alike a b) {P : Type 0} where
  given_alike : ((k : A) × (a ≡ given k)) ↔ P → ((k : A) × (b ≡ given k)) ↔ P
  given_alike e = ((λ g. e.0 (g.0, h.from g.0 g.1)), (λ p. let g = e.1 p in (g.0, h.to g.0 g.1)))

  number_alike : {n : ℕ} → P ↔ (number a ≡ some n) → P ↔ (number b ≡ some n)
  number_alike e = ((λ p. sym h.same ∙ e.0 p), (λ q. e.1 (h.same ∙ q)))

module _ (K : Coding) (y out : List ℕ) {a b : Answer ℕ} (h : Alike a b) where
  pub decides_alike : DistanceDecides K y a out → DistanceDecides K y b out
  decides_alike d =
      record {
        exactly = given_alike h d.exactly;
        back = d.back;
        count = λ c w. h.to _ (d.count c w);
        one = d.one;
        other = number_alike h d.other;
      }

  pub some_alike : SomeCodeword K y a out → SomeCodeword K y b out
  some_alike d =
      record { exactly = given_alike h d.exactly; back = λ k e. d.back k (h.from k e); other = number_alike h d.other }

  pub within_alike : GivenWithinReach K y a out → GivenWithinReach K y b out
  within_alike d k e = d k (h.from k e)

  pub keeps_alike : KeepsMessages K y a out → KeepsMessages K y b out
  keeps_alike d =
      record {
        kept = λ s m r. (let (e, f, g) = d.kept s m r in (h.to _ e, f, g));
        still = λ c. (let (e, f) = d.still c in (h.to 0 e, f));
      }

-- of a test: its number r
pub test_by : (P : Type 0) (a : Result (Unit {0}) Refusal) (r : ℕ) → r ≡ number_of (answer_of a) → Tested P (answer_of a) → Tested P (answer_by r)
test_by P (Ok tt) r e h = rw e h
test_by P (Err (refusal.NoPatternInPlane j)) r e h =
    let never : P → ⊥ = (λ q. let e = h.fit.1 q in let z : ◌≡◌ {A = ℕ} 0 1 = cc in omega arith) in
    let e = h.unfit.1 never in
    let z : ◌≡◌ {A = ℕ} 0 1 = cc in
    absurd (omega arith)
test_by P (Err x) r e h = rw e h

-- of writing: its number r
module _ (K : Coding) (x out : List ℕ) (a : Answer (Unit {0})) (r : ℕ) (e : r ≡ number_of a) where
  stands : a ≡ given tt → answer_by r ≡ given tt
  stands w = rw (e, w)

  pub write_by : OneCodeword K x a out → OneCodeword K x (answer_by r) out
  write_by h = record { written = stands h.written; codeword = h.codeword; carries = h.carries; only = h.only }

  pub recover_by : Recovered K x a out → Recovered K x (answer_by r) out
  recover_by h = record { recovered = stands h.recovered; is_message = h.is_message; again = h.again }

-- and of packing
module _ (b : List ℕ) (p : Code) (x out : List ℕ) where
  pub pack_by : (a : Answer (Unit {0})) (r : ℕ) → r ≡ number_of a → Packed b p x a out → Packed b p x (answer_by r) out
  pack_by a r e h = record {
    written = (let w = h.written in rw (e, w));
    is_bytes = h.is_bytes;
    back = h.back;
    only = h.only;
  }

  unpacked_alike : {a c : Answer (Unit {0})} → Alike a c → Unpacked b p x a out → Unpacked b p x c out
  unpacked_alike same h = record {
    exactly = ((λ e. h.exactly.0 (same.from tt e)), (λ w. same.to tt (h.exactly.1 w)));
    leftover = number_alike same h.leftover;
    whole = λ e. same.to tt (h.whole e);
    taken = λ e. h.taken (same.from tt e);
  }

  pub unpack_by : (a : Result (Unit {0}) Refusal) (r : ℕ) → r ≡ number_of (answer_of a)
      → Unpacked b p x (answer_of a) out → Unpacked b p x (answer_by r) out
  unpack_by a r e h = rw e (unpacked_alike (write_alike a) h)

-- and of messages and their numbers
pub message_by : (b : List ℕ) (p : Code) (x : ℕ) (out : List ℕ) (a : Answer (Unit {0})) (r : ℕ) → r ≡ number_of a
    → MessageMade b p x a out → MessageMade b p x (answer_by r) out
message_by b p x out a r e h = record {
  made = (let w = h.made in rw (e, w));
  is_message = h.is_message;
  writable = h.writable;
  back = h.back;
  only = h.only;
}

pub number_by : (b : List ℕ) (p : Code) (s : List ℕ) (a : Answer ℕ) (r : Value) → ValueNumbered a r
    → NumberMade b p s a → NumberMade b p s (count_by r.number r.value)
number_by b p s a r n h = record {
  x = h.x;
  made = (let w = h.made in let k = n.number_is in let v = n.value_is in rw (k, v, w));
  below = h.below;
  back = h.back;
  only = h.only;
}

-- the numbers r of an answer of reading
pub alike_by : (a : Answer ℕ) (r : Reading) → ReadNumbered a r → Alike a (count_by (number_of a) (count_of a)) → Alike a (count_by r.number r.count)
alike_by a r h k = let n = h.number_is in let c = h.count_is in rw (n, c) k

-- the patterns tried, where nothing is refused
pub tried-given : {B : Type 0} (count tried : B → ℕ) (a : Result B Refusal) (r : Reading)
    → ReadNumbered (answer_with count a) r → r.tried ≡ count_of (answer_with tried a) → r.number ≡ 0 → answer_with tried a ≡ given r.tried
tried-given count tried (Ok b) r h e z = rw e
tried-given count tried (Err x) r h e z = absurd (omega (arith, h.number_is, refused-number ℕ x, positive x))
