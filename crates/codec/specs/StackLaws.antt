-- The laws of stacks.
use Rattle.std.proofs.Common.{◌≡◌, ◌↔◌, true, List, ℕ, length}
use Rattle.definitions.specs.Answers.{result}
use Rattle.definitions.specs.Stacks.{levels}
use Rattle.definitions.specs.StackCodewords.{is_stack_codeword, AcceptedStack, accepted_stack}
use Rattle.definitions.specs.StackMessages.{message_length, StackMessage, digits_fit}
use Rattle.definitions.specs.StackDecoding.{decode_word}
use Rattle.definitions.specs.Demands.{of_stack, OneToOne, DistanceDecides, GivenWithinReach, KeepsMessages}
use Rattle.definitions.specs.Words.{all_below}
use Rattle.definitions.proofs.Tests.{each_below}
use Rattle.code_theorems.proofs.Refusals.{is_true}
use Rattle.code_theorems.proofs.Deciding.{keeps_messages, result-given}
use Rattle.stack_theorems.proofs.Opened.{stack_acceptance}
use Rattle.stack_theorems.proofs.Codewords.{stack_codeword_test, digits_test}
use Rattle.stack_theorems.proofs.Counts.{reach_self}
use Rattle.stack_theorems.proofs.Decoding.{decode-only, distance_decides}
use Rattle.stack_theorems.proofs.Messages.{stack_messages_codewords}
use Rattle.stack_opening.specs.declared.Stack.{Stack}
use Rattle.stack_opening.specs.Viewed.{stack}
use Rattle.stack_operations.proofs.Planes.{stack_planes}
use Rattle.codec.specs.Shared.{Passes, EachReading}
use Rattle.codec.specs.CodeLaws.{says}

pub stack_accepted : (x : Stack) → (accepted_stack (stack x) ≡ true) ↔ AcceptedStack (stack x)
stack_accepted x = says (accepted_stack (stack x)) (AcceptedStack (stack x)) (stack_acceptance (stack x))

pub stack_one_to_one : (x : Stack) → OneToOne (of_stack (stack x))
stack_one_to_one x = stack_messages_codewords (stack x) (stack_planes x)

pub stack_message_passes : (x : Stack) (s : List ℕ) → StackMessage (stack x) s
    → (length s ≡ message_length (stack x).planes) × (digits_fit (stack x).planes s ≡ true)
stack_message_passes x s m = (m.long, is_true (digits_fit (stack x).planes s) ((digits_test (stack x).planes s).1 m.below))

pub stack_passes : (x : Stack) → Passes (of_stack (stack x)) x.n (levels (stack x)) (is_stack_codeword (stack x))
stack_passes x = record {
  long = λ c h. h.long;
  below = λ c h. is_true (all_below (levels (stack x)) c) (each_below (levels (stack x)) c h.bounded);
  passed = λ c h. is_true (is_stack_codeword (stack x) c) ((stack_codeword_test (stack x) c).1 h);
}

pub stack_always : (x : Stack) → EachReading x.n (levels (stack x)) (decode_word (stack x)) (GivenWithinReach (of_stack (stack x)))
stack_always x y out long below k e =
    decode-only (stack x) y (stack_planes x) long below k
    (result (decode_word (stack x) y) out).out (result-given (decode_word (stack x) y) out k e)

pub stack_decides : (x : Stack) → AcceptedStack (stack x)
    → EachReading x.n (levels (stack x)) (decode_word (stack x)) (DistanceDecides (of_stack (stack x)))
stack_decides x acc y out long below = distance_decides (stack x) y (stack_planes x) long below acc out

pub stack_keeps : (x : Stack) → AcceptedStack (stack x)
    → EachReading x.n (levels (stack x)) (decode_word (stack x)) (KeepsMessages (of_stack (stack x)))
stack_keeps x acc y out long below =
    keeps_messages (of_stack (stack x)) (stack_one_to_one x) y
    (result (decode_word (stack x) y) out).answer (result (decode_word (stack x) y) out).out
    (reach_self (stack x) y) (stack_decides x acc y out long below)
