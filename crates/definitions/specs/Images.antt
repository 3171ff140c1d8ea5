-- The cartridge image: its directory (document 01: contents), its check, and reading a row entry. Entries count from 1.
use Rattle.std.specs.Prelude.{Bool, true, false, ◌&&◌, not, cond, List, [], ◌∷◌, ℕ, ◌+◌, ◌*◌, ◌-◌, eqb, leb, length, take, drop}
use Rattle.definitions.specs.Words.{at, up_from}
use Rattle.definitions.specs.Answers.{Answer, given, refused, refused_at, Result, refuse◌when◌else◌, result, after}
use Rattle.definitions.specs.CodeOperations.{between, test_code, decode_code}
use Rattle.definitions.specs.StackOperations.{test_stack, decode_stack}

-- "Each entry is kind (1 plan, 2 stack, 3 row), reference, offset and length"
pub record Entry : Type 0 where
  pub kind : ℕ
  pub reference : ℕ
  pub offset : ℕ
  pub length : ℕ

-- "these two 16 bits, low byte first"
abbrev pub sixteen_bits : List ℕ → ℕ → ℕ
sixteen_bits x i = at x i + 256 * at x (i + 1)

-- where the six bytes of entry k start; those of entry 1 stand after byte 0
abbrev pub entry_place : ℕ → ℕ
entry_place k = 6 * k - 5

abbrev pub entry_at : List ℕ → ℕ → Entry
entry_at x k =
    record {
      kind = at x (entry_place k);
      reference = at x (entry_place k + 1);
      offset = sixteen_bits x (entry_place k + 2);
      length = sixteen_bits x (entry_place k + 4);
    }

-- "byte 0 is the number of entries"
abbrev pub entry_numbers : List ℕ → List ℕ
entry_numbers x = up_from 1 (at x 0)

-- where the directory ends
abbrev pub directory_end : List ℕ → ℕ
directory_end x = 1 + 6 * at x 0

-- the body of entry k
abbrev pub body_of : List ℕ → ℕ → List ℕ
body_of x k = take (entry_at x k).length (drop (entry_at x k).offset x)

-- the entries ks have kinds of document 01, and "bodies follow without gaps in entry order to the image's end": the first starts at place
abbrev pub bodies_follow : List ℕ → ℕ → List ℕ → Bool
bodies_follow x place [] = eqb place (length x)
bodies_follow x place (k ∷ ks) =
    between 1 (entry_at x k).kind 3 && eqb (entry_at x k).offset place && bodies_follow x (place + (entry_at x k).length) ks

-- contents as document 01 says, references apart
unfoldable pub contents_right : List ℕ → Bool
contents_right x =
    between 1 (length x) 65535
    && between 1 (at x 0) 32
    && leb (directory_end x) (length x)
    && bodies_follow x (directory_end x) (entry_numbers x)

abbrev pub passes_test : Answer (Unit {0}) → Bool
passes_test (given u) = true
passes_test (refused k) = false
passes_test (refused_at k j) = false

-- the reference is 0, and the body passes its test
abbrev pub body_passes : (List ℕ → Answer (Unit {0})) → List ℕ → ℕ → Bool
body_passes test x k = eqb (entry_at x k).reference 0 && passes_test (test (body_of x k))

-- "a row's reference is the number, from 1, of an earlier plan or stack"
abbrev pub reference_right : List ℕ → ℕ → Bool
reference_right x k =
    between 1 (entry_at x k).reference (k - 1) && between 1 (entry_at x (entry_at x k).reference).kind 2

-- by an entry's kind
abbrev pub entry_right : List ℕ → ℕ → Bool
entry_right x k =
    cond (eqb (entry_at x k).kind 1) (body_passes test_code x k)
    (cond (eqb (entry_at x k).kind 2) (body_passes test_stack x k)
    (cond (eqb (entry_at x k).kind 3) (reference_right x k) false))

abbrev pub entries_right : List ℕ → List ℕ → Bool
entries_right x [] = true
entries_right x (k ∷ ks) = entry_right x k && entries_right x ks

-- document 01: check an image
unfoldable pub check_image : List ℕ → Answer (Unit {0})
check_image x =
    refuse 15 when not (contents_right x) else
    refuse 16 when not (entries_right x (entry_numbers x)) else
    given tt

-- a row's record: "its entry number and an outcome, either a count or a refusal"
pub record RowRecord : Type 0 where
  pub entry : ℕ
  pub outcome : Answer ℕ

-- k is the number of a row's entry
abbrev pub is_row : List ℕ → ℕ → Bool
is_row x k = between 1 k (at x 0) && eqb (entry_at x k).kind 3

-- what row k's reference names
abbrev pub reference_of : List ℕ → ℕ → ℕ
reference_of x k = (entry_at x k).reference

-- "as Read does": row k by the plan or stack that its reference names, with an output row
unfoldable pub decode_row : List ℕ → ℕ → List ℕ → Result ℕ
decode_row x k out =
    cond (eqb (entry_at x (reference_of x k)).kind 1)
    (decode_code (body_of x (reference_of x k)) (body_of x k) out)
    (decode_stack (body_of x (reference_of x k)) (body_of x k) out)

-- put in the row's record, with what the output row holds
abbrev pub recorded : ℕ → Result ℕ → RowRecord × List ℕ
recorded k r = (record { entry = k; outcome = r.answer }, r.out)

-- document 01: reading a row entry. Image, entry number, output row
unfoldable pub read_row : List ℕ → ℕ → List ℕ → Result RowRecord
read_row x k out =
    result
    (after (check_image x) λ u.
    refuse 2 when not (is_row x k) else
    given (recorded k (decode_row x k out)))
    out
