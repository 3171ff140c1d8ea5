-- How many patterns a decoding tried, and what its equation says over bytes.
use Rattle.std.proofs.Common.{◌≡◌, List, ℕ, Result, Ok, Err, IfOk, ap, sym, subst, ◌∙◌, refl}
use Rattle.definitions.specs.Answers as answers
use Rattle.definitions.specs.Answers.{Answer, given, after, result}
use Rattle.definitions.specs.Codes.{Code, code_of}
use Rattle.definitions.specs.CodeOperations.{open_code, decode_code}
use Rattle.definitions.specs.Decoding.{decode}
use Rattle.definitions.specs.Tried.{tried, tried_code, TriedIsPlace}
use Rattle.code_theorems.proofs.Opened.{opened}
use Rattle.code_theorems.proofs.Tried.{tried_is_place}
use Rattle.answers.specs.declared.Refusal.{Refusal}
use Rattle.answers.specs.Answering.{answer_with, refused_as, leaves}
use Rattle.answers.proofs.Refusals.{after_refused, result_refused}
use Rattle.code_decoding.specs.declared.Decoded.{Decoded}
use Rattle.code_decoding.specs.Counts.{count_of, tried_of}
use Rattle.codec.specs.Shared.{decoding_by}

-- a description that is refused
pub unopened : (b y out : List ℕ) (x : Refusal) → refused_as x ≡ open_code b → refused_as x ≡ tried_code b y out
unfolding tried_code decode_code
unopened b y out x e = rw (← e, after_refused x, result_refused x out, after_refused x) refl

told_left :
    (b y out : List ℕ) (p : Code) → code_of b ≡ p → (a : Result Decoded Refusal) → answer_with count_of a ≡ (decode_code b y out).answer
    → IfOk a (λ x. x.tried ≡ tried p y) → answer_with tried_of a ≡ tried_code b y out
unfolding tried_code
told_left b y out p same (Ok x) e t =
    ap given (t ∙ ap (λ (q : Code). tried q y) (sym same)) ∙ ap (λ (z : Answer ℕ). after z λ _. given (tried (code_of b) y)) e
told_left b y out p same (Err x) e t =
    sym (after_refused x (λ _. given (tried (code_of b) y))) ∙ ap (λ (z : Answer ℕ). after z λ _. given (tried (code_of b) y)) e

-- of a description that opens
module _ (b : List ℕ) (p : Code) (opens : given p ≡ open_code b) (y lent : List ℕ) (a : Result Decoded Refusal) (out : List ℕ)
    (e : leaves (answer_with count_of a) out ≡ decoding_by p.n p.q (decode p) y lent) (told : IfOk a (λ x. x.tried ≡ tried p y)) where
  whole : leaves (answer_with count_of a) out ≡ decode_code b y lent
  unfolding decode_code decoding_by
  whole = rw (← opens) e

  pub tries : answer_with tried_of a ≡ tried_code b y lent
  tries = told_left b y lent p (opened b p (sym opens)).0 a (ap (λ (r : answers.Result ℕ). r.answer) whole) told

  pub place : TriedIsPlace (code_of b) y (answer_with tried_of a) out
  place =
      rw tries (subst (λ (r : answers.Result ℕ). TriedIsPlace (code_of b) y (tried_code b y lent) r.out) (sym whole) (tried_is_place b y lent))
