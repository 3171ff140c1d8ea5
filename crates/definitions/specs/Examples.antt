-- Examples a to l of document 01, as a table. Rows beyond them are in FurtherExamples.
use Rattle.std.specs.Prelude.{◌≡◌, Bool, List, [], ◌∷◌, ◌++◌, ℕ, length, replicate}
use Rattle.definitions.specs.Answers.{Answer, given, refused, refused_at, Result, after}
use Rattle.definitions.specs.Codes.{code_of}
use Rattle.definitions.specs.Patterns.{patterns_of}
use Rattle.definitions.specs.CodeOperations.{open_code, test_code, encode_code, decode_code}
use Rattle.definitions.specs.Tried.{tried_code}
use Rattle.definitions.specs.Golay.{decode_golay}
use Rattle.definitions.specs.MessageNumberOperations.{number_of_message}
use Rattle.definitions.specs.StackOperations.{test_stack, decode_stack}
use Rattle.definitions.specs.Images.{check_image, RowRecord, read_row}
use Rattle.definitions.specs.CartridgeLists.{lines_of}
use Rattle.definitions.specs.Circular.{decode_circular}

-- an operation with its input, and what is expected of it
pub data Example : Type 0 where
  opens : List ℕ → Answer (Unit {0}) → Example
  tests tests_stack : List ℕ → Answer (Unit {0}) → Example
  encodes : List ℕ → List ℕ → Result (Unit {0}) → Example
  decodes decodes_stack : List ℕ → List ℕ → Result ℕ → Example
  decodes_golay : ℕ → List ℕ → Result ℕ → Example
  tries : List ℕ → List ℕ → Answer ℕ → Example
  numbers : List ℕ → List ℕ → Answer ℕ → Example
  circular : List ℕ → List ℕ → Answer (ℕ × List ℕ) → Example
  patterns : List ℕ → ℕ → Example
  checks : List ℕ → Answer (Unit {0}) → Example
  -- an image, an entry number, and the cells of the output row
  reads_row : List ℕ → ℕ → ℕ → Result RowRecord → Example
  lists : List ℕ → List ℕ → Example
  -- any operation that writes; any test
  writes : Result (Unit {0}) → Result (Unit {0}) → Example
  passes : Bool → Bool → Example

-- a buffer of n cells, as lent
abbrev pub lent : ℕ → List ℕ
lent n = replicate n 9

abbrev pub Holds : Example → Type 0
Holds (opens b a) = after (open_code b) (λ p. given tt) ≡ a
Holds (tests b a) = test_code b ≡ a
Holds (tests_stack b a) = test_stack b ≡ a
Holds (encodes b s r) = encode_code b s (lent (length s)) ≡ r
Holds (decodes b y r) = decode_code b y (lent (length y)) ≡ r
Holds (decodes_stack b y r) = decode_stack b y (lent (length y)) ≡ r
Holds (decodes_golay q y r) = decode_golay q y (lent (length y)) ≡ r
Holds (tries b y a) = tried_code b y (lent (length y)) ≡ a
Holds (numbers b s a) = number_of_message b s ≡ a
Holds (circular b y a) = decode_circular (code_of b) y ≡ a
Holds (patterns b k) = length (patterns_of (code_of b)) ≡ k
Holds (checks x a) = check_image x ≡ a
Holds (reads_row x k n r) = read_row x k (lent n) ≡ r
Holds (lists x t) = lines_of x ≡ t
Holds (writes r e) = r ≡ e
Holds (passes t e) = t ≡ e

-- results: given back, with a report; refused by a number, the buffer as lent
abbrev pub back : {A : Type 0} → A → List ℕ → Result A
back k x = record { answer = given k; out = x }

abbrev pub declined : {A : Type 0} → ℕ → ℕ → Result A
declined k n = record { answer = refused k; out = lent n }

abbrev pub zeros : ℕ → List ℕ
zeros n = replicate n 0

unfoldable pub R : List ℕ
R = 5 ∷ 4 ∷ 8 ∷ 2 ∷ 1 ∷ 2 ∷ 1 ∷ 1 ∷ 1 ∷ 1 ∷ []

unfoldable pub F : List ℕ
F =
    12 ∷ 2 ∷ 5 ∷ 5 ∷ 2 ∷ 1
    ∷ 0 ∷ 1 ∷ 1 ∷ 1 ∷ 1 ∷ 4 ∷ 4 ∷ 4 ∷ 4 ∷ 4
    ∷ 4 ∷ 1 ∷ 2 ∷ 3 ∷ 4 ∷ 0 ∷ 1 ∷ 2 ∷ 3 ∷ 4 ∷ []

unfoldable pub S : List ℕ
S = 3 ∷ 3 ∷ 2 ∷ 2 ∷ 1 ∷ 1 ∷ 1 ∷ 2 ∷ 2 ∷ 1 ∷ 1 ∷ 1 ∷ 2 ∷ 2 ∷ 1 ∷ 1 ∷ 1 ∷ []

-- the code of example h, and the stack of example k
unfoldable pub H : List ℕ
H = 4 ∷ 3 ∷ 8 ∷ 3 ∷ 2 ∷ 1 ∷ 2 ∷ 2 ∷ 2 ∷ []

unfoldable pub K : List ℕ
K = 2 ∷ 1 ∷ 2 ∷ 1 ∷ 0 ∷ 1 ∷ []

-- the code of example g that is not accepted
unfoldable pub G : List ℕ
G = 2 ∷ 1 ∷ 8 ∷ 2 ∷ 1 ∷ 1 ∷ 1 ∷ []

unfoldable pub table : List Example
table =
    -- a
    encodes R (3 ∷ 2 ∷ 1 ∷ 0 ∷ 0 ∷ []) (back tt (3 ∷ 5 ∷ 3 ∷ 1 ∷ 1 ∷ []))
    -- b
    ∷ decodes R (4 ∷ 5 ∷ 3 ∷ 2 ∷ 1 ∷ []) (back 2 (3 ∷ 5 ∷ 3 ∷ 1 ∷ 1 ∷ []))
    -- c
    ∷ decodes R (4 ∷ 6 ∷ 3 ∷ 2 ∷ 1 ∷ []) (back 2 (4 ∷ 6 ∷ 2 ∷ 2 ∷ 0 ∷ []))
    -- d
    ∷ decodes R (1 ∷ zeros 4) (back 1 (zeros 5))
    ∷ decodes R (0 ∷ 1 ∷ 1 ∷ 1 ∷ 1 ∷ []) (declined 11 5)
    -- e
    ∷ encodes F (0 ∷ 1 ∷ zeros 10) (back tt (0 ∷ 1 ∷ (zeros 8 ++ 4 ∷ 4 ∷ [])))
    -- f
    ∷ decodes F (2 ∷ zeros 11) (back 1 (zeros 12))
    ∷ decodes F (zeros 11 ++ 3 ∷ []) (declined 11 12)
    -- g
    ∷ tests G (refused 6)
    ∷ tests (1 ∷ 0 ∷ 2 ∷ 2 ∷ 1 ∷ 0 ∷ []) (given tt)
    -- h
    ∷ decodes H (7 ∷ 7 ∷ 7 ∷ 7 ∷ []) (declined 11 4)
    -- i
    ∷ decodes_stack S (5 ∷ 5 ∷ 4 ∷ []) (back 1 (5 ∷ 5 ∷ 5 ∷ []))
    -- j
    ∷ decodes_stack S (0 ∷ 1 ∷ 7 ∷ []) (back 2 (7 ∷ 7 ∷ 7 ∷ []))
    -- k
    ∷ decodes_stack K (0 ∷ 1 ∷ []) (record { answer = refused_at 11 0; out = lent 2 })
    -- l
    ∷ patterns (45 ∷ 0 ∷ 3 ∷ 3 ∷ 2 ∷ 2 ∷ []) 4051
    ∷ opens (45 ∷ 0 ∷ 3 ∷ 3 ∷ 2 ∷ 2 ∷ []) (given tt)
    ∷ patterns (46 ∷ 0 ∷ 3 ∷ 3 ∷ 2 ∷ 2 ∷ []) 4233
    ∷ opens (46 ∷ 0 ∷ 3 ∷ 3 ∷ 2 ∷ 2 ∷ []) (refused 5)
    ∷ []

-- the joint theorem: proofs/Examples.antt
abbrev pub AllHold : List Example → Type 0
AllHold [] = Unit {0}
AllHold (x ∷ xs) = Holds x × AllHold xs
