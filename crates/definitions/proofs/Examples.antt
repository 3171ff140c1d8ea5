-- Document 01's examples hold, and further ones: one test that is computed over a table, and one law that turns it into the equations.
use mathlib.Core.Path.{◌≡◌, refl, ap, ap₂}
use mathlib.Core.Bool.{Bool, true, false, ◌&&◌, not}
use mathlib.Core.List.{List, [], ◌∷◌}
use Prim.Native.Nat.{ℕ}
use lib.Dec.{T, eqb, eqb→eq}
use lib.ListN.{length}
use Rattle.definitions.specs.Words.{same_word}
use Rattle.definitions.specs.Answers.{Answer, given, refused, refused_at, Result, after}
use Rattle.definitions.specs.Codes.{code_of}
use Rattle.definitions.specs.Codewords.{syndrome_entry, syndrome, is_codeword}
use Rattle.definitions.specs.Patterns.{patterns_of, pattern_count}
use Rattle.definitions.specs.Acceptance.{accepted}
use Rattle.definitions.specs.Decoding.{same_syndrome, fits, decode}
use Rattle.definitions.specs.Messages.{symbols_fit, check_level, encode, message}
use Rattle.definitions.specs.CodeOperations.{in_range, open_code, test_code, encode_code, decode_code, recover_code}
use Rattle.definitions.specs.Golay.{golay_matrix, decode_golay}
use Rattle.definitions.specs.Tried.{tried, tried_code}
use Rattle.definitions.specs.Packing.{packable, bit_count, byte_count, pack, unpack, leftover_set}
use Rattle.definitions.specs.PackingOperations.{open_packable, pack_code, unpack_code}
use Rattle.definitions.specs.MessageNumbers.{radix_product, message_number, number_message}
use Rattle.definitions.specs.MessageNumberOperations.{open_numbered, message_of_number, number_of_message}
use Rattle.definitions.specs.StackCodewords.{is_stack_codeword, accepted_stack}
use Rattle.definitions.specs.StackMessages.{stack_message, encode_word}
use Rattle.definitions.specs.StackDecoding.{first_with_syndrome, decode_planes, decode_word}
use Rattle.definitions.specs.StackOperations.{open_plane, open_planes, open_stack, test_stack, encode_stack, decode_stack, recover_stack}
use Rattle.definitions.specs.Images.{contents_right, check_image, RowRecord, decode_row, read_row}
use Rattle.definitions.specs.CartridgeLists.{lines_of}
use Rattle.definitions.specs.Circular.{decode_circular}
use Rattle.definitions.specs.Examples.{Example, opens, tests, tests_stack, encodes, decodes, decodes_stack, decodes_golay, tries, numbers, circular, patterns}
use Rattle.definitions.specs.Examples.{checks, reads_row, lists, writes, passes, Holds, AllHold, lent, R, F, S, H, K, G, table}
use Rattle.definitions.specs.PowersOfTwo.{log2, is_power_of_two}
use Rattle.definitions.specs.Labels.{gray, reversed, made_table, is_permutation}
use Rattle.definitions.specs.LabelOperations.{make_labels, applicable, to_levels, to_states}
use Rattle.definitions.specs.LabelExamples.{labels, three}
use Rattle.definitions.specs.FurtherExamples.{Z, transponder, document_image, stack_image, further}
use Rattle.definitions.specs.GolayExamples.{golay_words}
use Rattle.definitions.proofs.Tests.{and_left, and_right, same_eq}

-- equality of answers as a test, given one of what they give; and what it shows
module _ {A : Type 0} (same : A → A → Bool) where
  abbrev pub same_answer : Answer A → Answer A → Bool
  same_answer (given a) (given b) = same a b
  same_answer (given a) (refused k) = false
  same_answer (given a) (refused_at k j) = false
  same_answer (refused k) (given a) = false
  same_answer (refused k) (refused m) = eqb k m
  same_answer (refused k) (refused_at m j) = false
  same_answer (refused_at k i) (given a) = false
  same_answer (refused_at k i) (refused m) = false
  same_answer (refused_at k i) (refused_at m j) = eqb k m && eqb i j

  abbrev pub same_result : Result A → Result A → Bool
  same_result a b = same_answer a.answer b.answer && same_word a.out b.out

  module _ (equal : (a b : A) → T (same a b) → a ≡ b) where
    answers_eq : (a b : Answer A) → T (same_answer a b) → a ≡ b
    answers_eq (given a) (given b) h = ap {B = Answer A} given (equal a b h)
    answers_eq (given a) (refused k) h = absurd h
    answers_eq (given a) (refused_at k j) h = absurd h
    answers_eq (refused k) (given a) h = absurd h
    answers_eq (refused k) (refused m) h = ap {B = Answer A} refused (eqb→eq k m h)
    answers_eq (refused k) (refused_at m j) h = absurd h
    answers_eq (refused_at k i) (given a) h = absurd h
    answers_eq (refused_at k i) (refused m) h = absurd h
    answers_eq (refused_at k i) (refused_at m j) h =
        ap₂ {C = Answer A} refused_at (eqb→eq k m (and_left (eqb k m) (eqb i j) h)) (eqb→eq i j (and_right (eqb k m) (eqb i j) h))

    results_eq : (a b : Result A) → T (same_result a b) → a ≡ b
    results_eq a b h =
        ap₂ {C = Result A} (λ x y. record { answer = x; out = y })
        (answers_eq a.answer b.answer (and_left (same_answer a.answer b.answer) (same_word a.out b.out) h))
        (same_eq a.out b.out (and_right (same_answer a.answer b.answer) (same_word a.out b.out) h))

abbrev any_unit : Unit {0} → Unit {0} → Bool
any_unit a b = true

units_eq : (a b : Unit {0}) → T (any_unit a b) → a ≡ b
units_eq a b h = refl

abbrev same_pair : ℕ × List ℕ → ℕ × List ℕ → Bool
same_pair a b = eqb a.0 b.0 && same_word a.1 b.1

pairs_eq : (a b : ℕ × List ℕ) → T (same_pair a b) → a ≡ b
pairs_eq a b h =
    ap₂ {C = ℕ × List ℕ} (λ x y. (x, y)) (eqb→eq a.0 b.0 (and_left (eqb a.0 b.0) (same_word a.1 b.1) h))
    (same_eq a.1 b.1 (and_right (eqb a.0 b.0) (same_word a.1 b.1) h))

abbrev same_record : RowRecord → RowRecord → Bool
same_record a b = eqb a.entry b.entry && same_answer eqb a.outcome b.outcome

records_eq : (a b : RowRecord) → T (same_record a b) → a ≡ b
records_eq a b h =
    ap₂ {C = RowRecord} (λ x y. record { entry = x; outcome = y })
    (eqb→eq a.entry b.entry (and_left (eqb a.entry b.entry) (same_answer eqb a.outcome b.outcome) h))
    (answers_eq eqb eqb→eq a.outcome b.outcome (and_right (eqb a.entry b.entry) (same_answer eqb a.outcome b.outcome) h))

abbrev same_test_of : Bool → Bool → Bool
same_test_of true t = t
same_test_of false t = not t

tests_eq : (a b : Bool) → T (same_test_of a b) → a ≡ b
tests_eq true true h = refl
tests_eq true false h = absurd h
tests_eq false true h = absurd h
tests_eq false false h = refl

abbrev holds : Example → Bool
holds (opens b a) = same_answer any_unit (after (open_code b) (λ p. given tt)) a
holds (tests b a) = same_answer any_unit (test_code b) a
holds (tests_stack b a) = same_answer any_unit (test_stack b) a
holds (encodes b s r) = same_result any_unit (encode_code b s (lent (length s))) r
holds (decodes b y r) = same_result eqb (decode_code b y (lent (length y))) r
holds (decodes_stack b y r) = same_result eqb (decode_stack b y (lent (length y))) r
holds (decodes_golay q y r) = same_result eqb (decode_golay q y (lent (length y))) r
holds (tries b y a) = same_answer eqb (tried_code b y (lent (length y))) a
holds (numbers b s a) = same_answer eqb (number_of_message b s) a
holds (circular b y a) = same_answer same_pair (decode_circular (code_of b) y) a
holds (patterns b k) = eqb (length (patterns_of (code_of b))) k
holds (checks x a) = same_answer any_unit (check_image x) a
holds (reads_row x k n r) = same_result same_record (read_row x k (lent n)) r
holds (lists x t) = same_word (lines_of x) t
holds (writes r e) = same_result any_unit r e
holds (passes t e) = same_test_of t e

shown : (x : Example) → T (holds x) → Holds x
shown (opens b a) h = answers_eq any_unit units_eq (after (open_code b) (λ p. given tt)) a h
shown (tests b a) h = answers_eq any_unit units_eq (test_code b) a h
shown (tests_stack b a) h = answers_eq any_unit units_eq (test_stack b) a h
shown (encodes b s r) h = results_eq any_unit units_eq (encode_code b s (lent (length s))) r h
shown (decodes b y r) h = results_eq eqb eqb→eq (decode_code b y (lent (length y))) r h
shown (decodes_stack b y r) h = results_eq eqb eqb→eq (decode_stack b y (lent (length y))) r h
shown (decodes_golay q y r) h = results_eq eqb eqb→eq (decode_golay q y (lent (length y))) r h
shown (tries b y a) h = answers_eq eqb eqb→eq (tried_code b y (lent (length y))) a h
shown (numbers b s a) h = answers_eq eqb eqb→eq (number_of_message b s) a h
shown (circular b y a) h = answers_eq same_pair pairs_eq (decode_circular (code_of b) y) a h
shown (patterns b k) h = eqb→eq (length (patterns_of (code_of b))) k h
shown (checks x a) h = answers_eq any_unit units_eq (check_image x) a h
shown (reads_row x k n r) h = results_eq same_record records_eq (read_row x k (lent n)) r h
shown (lists x t) h = same_eq (lines_of x) t h
shown (writes r e) h = results_eq any_unit units_eq r e h
shown (passes t e) h = tests_eq t e h

abbrev all_hold : List Example → Bool
all_hold [] = true
all_hold (x ∷ xs) = holds x && all_hold xs

all_shown : (xs : List Example) → T (all_hold xs) → AllHold xs
all_shown [] h = tt
all_shown (x ∷ xs) h = (shown x (and_left (holds x) (all_hold xs) h), all_shown xs (and_right (holds x) (all_hold xs) h))

computed : T (all_hold table)
unfolding
    table R F S H K G
    syndrome_entry syndrome is_codeword patterns_of pattern_count accepted same_syndrome fits decode symbols_fit check_level encode
    in_range open_code test_code encode_code decode_code
    first_with_syndrome decode_planes decode_word open_plane open_planes open_stack decode_stack
computed = tt

further_computed : T (all_hold further)
unfolding
    further document_image stack_image R F S H K G Z transponder
    syndrome_entry syndrome is_codeword patterns_of pattern_count accepted same_syndrome fits decode symbols_fit check_level encode message
    in_range open_code test_code encode_code decode_code recover_code tried tried_code decode_stack
    radix_product message_number number_message open_numbered message_of_number number_of_message
    log2 is_power_of_two packable bit_count byte_count pack unpack leftover_set open_packable pack_code unpack_code
    contents_right check_image decode_row read_row lines_of
    accepted_stack is_stack_codeword stack_message encode_word first_with_syndrome
    open_plane open_planes open_stack test_stack encode_stack recover_stack decode_circular decode_planes decode_word
further_computed = tt

labels_computed : T (all_hold labels)
unfolding
    labels three log2 is_power_of_two gray reversed made_table is_permutation make_labels applicable to_levels to_states
labels_computed = tt

golay_computed : T (all_hold golay_words)
unfolding
    golay_words golay_matrix decode_golay
    syndrome_entry syndrome is_codeword patterns_of same_syndrome fits decode
golay_computed = tt

pub examples : AllHold table
examples = all_shown table computed

pub further_examples : AllHold further
further_examples = all_shown further further_computed

pub label_examples : AllHold labels
label_examples = all_shown labels labels_computed

pub golay_examples : AllHold golay_words
golay_examples = all_shown golay_words golay_computed
