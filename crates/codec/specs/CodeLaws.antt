-- The laws of codes.
use Rattle.std.proofs.Common.{◌≡◌, ◌↔◌, Bool, true, List, ℕ, ◌≤◌, length, sym, subst, arith}
use lib.Dec.{T}
use Rattle.definitions.specs.Answers.{result}
use Rattle.definitions.specs.Acceptance.{Accepted, accepted}
use Rattle.definitions.specs.Decoding.{decode}
use Rattle.definitions.specs.Messages.{Message, symbols_fit}
use Rattle.definitions.specs.Codewords.{is_codeword}
use Rattle.definitions.specs.Demands.{of_code, OneToOne, DistanceDecides, SomeCodeword, KeepsMessages}
use Rattle.definitions.specs.Words.{all_below}
use Rattle.definitions.proofs.Tests.{each_below}
use Rattle.word_laws.proofs.Subtraction.{near_self, distance_self}
use Rattle.code_theorems.proofs.Refusals.{is_true}
use Rattle.code_theorems.proofs.Acceptance.{acceptance}
use Rattle.code_theorems.proofs.Codewords.{codeword_test}
use Rattle.code_theorems.proofs.Deciding.{keeps_messages}
use Rattle.code_theorems.proofs.Decoding.{distance_decides, decodes_some}
use Rattle.code_theorems.proofs.Messages.{messages_codewords, symbols_pass}
use Rattle.opening.specs.declared.Code.{Code}
use Rattle.opening.specs.Viewed.{code}
use Rattle.codec.specs.Shared.{Passes, EachReading}

-- a test that says what it tests
pub says : (a : Bool) (P : Type 0) → T a ↔ P → (a ≡ true) ↔ P
says a P h = ((λ e. h.0 (rw e tt)), (λ x. is_true a (h.1 x)))

pub code_accepted : (x : Code) → (accepted (code x) ≡ true) ↔ Accepted (code x)
code_accepted x = says (accepted (code x)) (Accepted (code x)) (acceptance (code x))

pub code_one_to_one : (x : Code) → OneToOne (of_code (code x))
code_one_to_one x = messages_codewords (code x) (omega arith) (omega arith)

pub code_message_passes : (x : Code) (s : List ℕ) → Message (code x) s → (length s ≡ x.n) × (symbols_fit (code x) s ≡ true)
code_message_passes x s m = (m.long, is_true (symbols_fit (code x) s) (symbols_pass (code x) s m))

pub code_passes : (x : Code) → Passes (of_code (code x)) x.n x.q (is_codeword (code x))
code_passes x = record {
  long = λ c h. h.long;
  below = λ c h. is_true (all_below x.q c) (each_below x.q c h.levels);
  passed = λ c h. is_true (is_codeword (code x) c) (codeword_test (code x) c h);
}

pub code_always : (x : Code) → EachReading x.n x.q (decode (code x)) (SomeCodeword (of_code (code x)))
code_always x y out long below = decodes_some (code x) y long out

pub code_decides : (x : Code) → Accepted (code x) → EachReading x.n x.q (decode (code x)) (DistanceDecides (of_code (code x)))
code_decides x acc y out long below = distance_decides (code x) y long acc out

pub code_keeps : (x : Code) → Accepted (code x) → EachReading x.n x.q (decode (code x)) (KeepsMessages (of_code (code x)))
code_keeps x acc y out long below =
    keeps_messages (of_code (code x)) (code_one_to_one x) y (result (decode (code x) y) out).answer (result (decode (code x) y) out).out
    (λ c. record { cells = near_self x.l y; few = subst (λ (u : ℕ). u ≤ x.t) (sym (distance_self y)) (omega arith) })
    (code_decides x acc y out long below)
