-- The demands for stacks, from the description's bytes to the answer and the output buffer.
use mathlib.Core.Path.{◌≡◌, sym, ap, subst, ◌∙◌}
use mathlib.Core.List.{List}
use Prim.Native.Nat.{ℕ, ◌≤◌, ◌<◌}
use lib.ListN.{length}
use borrow.Author.Tests.{eq-eqb}
use Rattle.definitions.specs.Words.{all_below, EachCell}
use Rattle.definitions.specs.Answers.{given, Result, result}
use Rattle.definitions.specs.Stacks.{Stack, levels}
use Rattle.definitions.specs.StackCodewords.{StackCodeword, is_stack_codeword, AcceptedStack}
use Rattle.definitions.specs.StackDecoding.{decode_word}
use Rattle.definitions.specs.StackMessages.{message_length, StackMessage, digits_fit, encode_word, stack_message}
use Rattle.definitions.specs.StackOperations.{open_stack, test_stack, encode_stack, decode_stack, recover_stack}
use Rattle.definitions.specs.Demands.{of_stack, OneToOne, Tested, OneCodeword, Recovered, DistanceDecides, GivenWithinReach, KeepsMessages}
use Rattle.definitions.proofs.Tests.{each_below}
use Rattle.code_theorems.proofs.Refusals.{is_true}
use Rattle.code_theorems.proofs.Deciding.{one-codeword, recovered, keeps_messages, result-given}
use Rattle.stack_theorems.proofs.Opened.{ArePlanes, stack_opened, stack_tested}
use Rattle.stack_theorems.proofs.Codewords.{stack_codeword_test, digits_test}
use Rattle.stack_theorems.proofs.Decoding.{decode-only, distance_decides}
use Rattle.stack_theorems.proofs.Counts.{sum_of_t, count_bound, reach_self}
use Rattle.stack_theorems.proofs.Messages.{stack_messages_codewords}

module _ (b : List ℕ) (S : Stack) (opens : open_stack b ≡ given S) where
  planes : ArePlanes S.n S.planes
  planes = (stack_opened b S opens).planes

  one_to_one : OneToOne (of_stack S)
  one_to_one = stack_messages_codewords S planes

  -- demand 1, of the test
  pub test_demand : Tested (AcceptedStack S) (test_stack b)
  test_demand = stack_tested b S opens

  -- demand 2, of encoding
  encodes : (s out : List ℕ) → StackMessage S s → length out ≡ S.n → encode_stack b s out ≡ record { answer = given tt; out = encode_word S s }
  unfolding encode_stack
  encodes s out m lo =
      rw (
        opens,
        eq-eqb (length s) (message_length S.planes) m.long,
        eq-eqb (length out) S.n lo,
        is_true (digits_fit S.planes s) ((digits_test S.planes s).1 m.below),
      )

  pub encode_demand : (s out : List ℕ) → StackMessage S s → length out ≡ S.n
      → OneCodeword (of_stack S) s (encode_stack b s out).answer (encode_stack b s out).out
  encode_demand s out m lo =
      subst (λ (r : Result (Unit {0})). OneCodeword (of_stack S) s r.answer r.out) (sym (encodes s out m lo)) (one-codeword (of_stack S) one_to_one s m)

  -- demand 2, of recovery
  recovers : (c out : List ℕ) → StackCodeword S c → length out ≡ message_length S.planes
      → recover_stack b c out ≡ record { answer = given tt; out = stack_message S c }
  unfolding recover_stack
  recovers c out h lo =
      rw (
        opens,
        eq-eqb (length c) S.n h.long,
        eq-eqb (length out) (message_length S.planes) lo,
        is_true (all_below (levels S) c) (each_below (levels S) c h.bounded),
        is_true (is_stack_codeword S c) ((stack_codeword_test S c).1 h),
      )

  pub recover_demand : (c out : List ℕ) → StackCodeword S c → length out ≡ message_length S.planes
      → Recovered (of_stack S) c (recover_stack b c out).answer (recover_stack b c out).out
  recover_demand c out h lo =
      subst (λ (r : Result (Unit {0})). Recovered (of_stack S) c r.answer r.out) (sym (recovers c out h lo)) (recovered (of_stack S) one_to_one c h)

  -- "the message recovered from a codeword, written again, is that codeword": encoding what recovery left
  pub written-again : (c out lent : List ℕ) → StackCodeword S c → length out ≡ message_length S.planes → length lent ≡ S.n
      → encode_stack b (recover_stack b c out).out lent ≡ record { answer = given tt; out = c }
  written-again c out lent h lo ll =
      ap (λ (r : Result (Unit {0})). encode_stack b r.out lent) (recovers c out h lo)
      ∙ encodes (stack_message S c) lent (one_to_one.is_message c h) ll
      ∙ ap (λ (x : List ℕ). record { answer = given tt; out = x }) (one_to_one.again c h)

  module _ (y out : List ℕ) (ly : length y ≡ S.n) (lo : length out ≡ S.n) (bounded : EachCell (λ v. v < levels S) y) where
    decodes : decode_stack b y out ≡ result (decode_word S y) out
    unfolding decode_stack
    decodes =
        rw (opens, eq-eqb (length y) S.n ly, eq-eqb (length out) S.n lo, is_true (all_below (levels S) y) (each_below (levels S) y bounded))

    -- what holds of decoding without acceptance: what is given back is a codeword within reach, with the count of its cells that differ
    pub decode-within : GivenWithinReach (of_stack S) y (decode_stack b y out).answer (decode_stack b y out).out
    decode-within = rw decodes (λ k e. decode-only S y planes ly bounded k (result (decode_word S y) out).out (result-given (decode_word S y) out k e))

    -- a count is at most the sum of the planes' t
    pub count-at-most : (k : ℕ) → (decode_stack b y out).answer ≡ given k → k ≤ sum_of_t S.planes
    count-at-most = rw decodes (λ k e. count_bound S y planes ly bounded k (result (decode_word S y) out).out (result-given (decode_word S y) out k e))

    module _ (fit : AcceptedStack S) where
      -- demand 3
      pub decode_demand : DistanceDecides (of_stack S) y (decode_stack b y out).answer (decode_stack b y out).out
      decode_demand =
          subst (λ (r : Result ℕ). DistanceDecides (of_stack S) y r.answer r.out) (sym decodes)
          (distance_decides S y planes ly bounded fit out)

      -- kept messages
      pub decode_keeps : KeepsMessages (of_stack S) y (decode_stack b y out).answer (decode_stack b y out).out
      decode_keeps =
          keeps_messages (of_stack S) one_to_one y (decode_stack b y out).answer (decode_stack b y out).out (reach_self S y) decode_demand
