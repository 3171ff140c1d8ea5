-- A second table under the law of the first: rows that show that what the theorems suppose can be met, and rows that stop a wrong
-- definition which examples a to l let through.
use Rattle.std.specs.Prelude.{false, List, [], ◌∷◌, ◌++◌, ℕ, ◌-◌, ◌^◌, replicate}
use Rattle.definitions.specs.Answers.{given, refused, refused_at}
use Rattle.definitions.specs.Codes.{code_of}
use Rattle.definitions.specs.Decoding.{fits}
use Rattle.definitions.specs.CodeOperations.{recover_code}
use Rattle.definitions.specs.PackingOperations.{pack_code, unpack_code}
use Rattle.definitions.specs.MessageNumberOperations.{message_of_number}
use Rattle.definitions.specs.StackOperations.{encode_stack, recover_stack}
use Rattle.definitions.specs.Examples.{Example, tests, tests_stack, encodes, decodes, tries, numbers, circular, checks, reads_row, lists, writes, passes}
use Rattle.definitions.specs.Examples.{lent, zeros, back, declined, R, F, S, H, K, G}

-- no cell may rise
unfoldable pub Z : List ℕ
Z = 2 ∷ 1 ∷ 8 ∷ 2 ∷ 1 ∷ 0 ∷ 0 ∷ []

-- six cells of six levels: 6^4 * 2^2 messages, enough for the 4,096 transponder codes of four octal digits
unfoldable pub transponder : List ℕ
transponder = 6 ∷ 2 ∷ 6 ∷ 3 ∷ 1 ∷ 1 ∷ 1 ∷ 1 ∷ 2 ∷ 2 ∷ 1 ∷ 2 ∷ 1 ∷ 2 ∷ []

-- n cells of q levels and no check cells: q^n messages
abbrev pub all_data : ℕ → ℕ → List ℕ
all_data n q = n ∷ 0 ∷ q ∷ q ∷ 1 ∷ 0 ∷ []

-- an image of two entries, six bytes each, and their bodies
abbrev pub image_of : List ℕ → List ℕ → List ℕ → List ℕ
image_of a b bodies = 2 ∷ a ++ b ++ bodies

-- an entry's bytes, with an offset and a length below 256
abbrev pub entry : ℕ → ℕ → ℕ → ℕ → List ℕ
entry kind reference offset length = kind ∷ reference ∷ offset ∷ 0 ∷ length ∷ 0 ∷ []

-- the row of example b
abbrev pub row : List ℕ
row = 4 ∷ 5 ∷ 3 ∷ 2 ∷ 1 ∷ []

-- document 01's image
unfoldable pub document_image : List ℕ
document_image = image_of (entry 1 0 13 10) (entry 3 1 23 5) (R ++ row)

-- example k as an image
unfoldable pub stack_image : List ℕ
stack_image = image_of (entry 2 0 13 6) (entry 3 1 19 2) (K ++ 0 ∷ 1 ∷ [])

unfoldable pub further : List Example
further =
    -- these are accepted
    tests R (given tt)
    ∷ tests F (given tt)
    ∷ tests H (given tt)
    ∷ tests_stack S (given tt)
    ∷ tests_stack K (given tt)
    -- messages recovered, and a stack's written
    ∷ writes (recover_code R (3 ∷ 5 ∷ 3 ∷ 1 ∷ 1 ∷ []) (lent 5)) (back tt (3 ∷ 2 ∷ 1 ∷ 0 ∷ 0 ∷ []))
    ∷ writes (encode_stack S (1 ∷ 0 ∷ 1 ∷ []) (lent 3)) (back tt (5 ∷ 5 ∷ 5 ∷ []))
    ∷ writes (recover_stack S (5 ∷ 5 ∷ 5 ∷ []) (lent 3)) (back tt (1 ∷ 0 ∷ 1 ∷ []))
    -- wish 1, patterns tried: examples b, c, d and f; a codeword; the last of R's 16 patterns; refused rows
    ∷ tries R (4 ∷ 5 ∷ 3 ∷ 2 ∷ 1 ∷ []) (given 9)
    ∷ tries R (4 ∷ 6 ∷ 3 ∷ 2 ∷ 1 ∷ []) (given 15)
    ∷ tries R (1 ∷ zeros 4) (given 2)
    ∷ tries F (2 ∷ zeros 11) (given 3)
    ∷ tries R (3 ∷ 5 ∷ 3 ∷ 1 ∷ 1 ∷ []) (given 1)
    ∷ tries R (0 ∷ 0 ∷ 0 ∷ 1 ∷ 1 ∷ []) (given 16)
    ∷ tries R (0 ∷ 1 ∷ 1 ∷ 1 ∷ 1 ∷ []) (refused 11)
    ∷ tries R (8 ∷ zeros 4) (refused 10)
    -- wish 2, numbers: transponder code 4271 in octal is 2233; its message, the codeword, cell 3 read too high, and back to the number
    ∷ tests transponder (given tt)
    ∷ writes (message_of_number transponder 2233 (lent 6)) (back tt (1 ∷ 0 ∷ 2 ∷ 4 ∷ 1 ∷ 0 ∷ []))
    ∷ encodes transponder (1 ∷ 0 ∷ 2 ∷ 4 ∷ 1 ∷ 0 ∷ []) (back tt (1 ∷ 0 ∷ 2 ∷ 4 ∷ 5 ∷ 1 ∷ []))
    ∷ decodes transponder (1 ∷ 0 ∷ 3 ∷ 4 ∷ 5 ∷ 1 ∷ []) (back 1 (1 ∷ 0 ∷ 2 ∷ 4 ∷ 5 ∷ 1 ∷ []))
    ∷ writes (recover_code transponder (1 ∷ 0 ∷ 2 ∷ 4 ∷ 5 ∷ 1 ∷ []) (lent 6)) (back tt (1 ∷ 0 ∷ 2 ∷ 4 ∷ 1 ∷ 0 ∷ []))
    ∷ numbers transponder (1 ∷ 0 ∷ 2 ∷ 4 ∷ 1 ∷ 0 ∷ []) (given 2233)
    -- R's numbers are those below 8 * 4^4 = 2048
    ∷ writes (message_of_number R 2047 (lent 5)) (back tt (7 ∷ 3 ∷ 3 ∷ 3 ∷ 3 ∷ []))
    ∷ writes (message_of_number R 2048 (lent 5)) (declined 18 5)
    ∷ numbers R (0 ∷ 0 ∷ 0 ∷ 0 ∷ 4 ∷ []) (refused 9)
    -- a product of exactly 2^63 passes; 5^28 modulo 2^64 would be below it
    ∷ writes (message_of_number (all_data 63 2) (2 ^ 63 - 1) (lent 63)) (back tt (replicate 63 1))
    ∷ numbers (all_data 63 2) (replicate 63 1) (given (2 ^ 63 - 1))
    ∷ writes (message_of_number (all_data 63 2) (2 ^ 63) (lent 63)) (declined 18 63)
    ∷ numbers (all_data 28 5) (zeros 28) (refused 17)
    ∷ numbers (all_data 64 64) (zeros 64) (refused 17)
    -- 8 before 17, 17 before 18 and before 9
    ∷ writes (message_of_number (all_data 64 2) 0 (lent 63)) (declined 8 63)
    ∷ writes (message_of_number (all_data 40 3) (2 ^ 64 - 1) (lent 40)) (declined 17 40)
    ∷ numbers (all_data 40 3) (replicate 40 3) (refused 17)
    -- wish 3, leftover bits: R's 11 bits are two bytes, of which the last has five leftover bits. No example of document 01 changes
    ∷ writes (pack_code R (3 ∷ 2 ∷ 1 ∷ 0 ∷ 0 ∷ []) (lent 2)) (back tt (51 ∷ 0 ∷ []))
    ∷ writes (unpack_code R (51 ∷ 0 ∷ []) (lent 5)) (back tt (3 ∷ 2 ∷ 1 ∷ 0 ∷ 0 ∷ []))
    -- the lowest and the highest of them set; the same bits of the first byte belong to symbols
    ∷ writes (unpack_code R (51 ∷ 8 ∷ []) (lent 5)) (declined 19 5)
    ∷ writes (unpack_code R (51 ∷ 128 ∷ []) (lent 5)) (declined 19 5)
    ∷ writes (unpack_code R (255 ∷ 7 ∷ []) (lent 5)) (back tt (7 ∷ 3 ∷ 3 ∷ 3 ∷ 3 ∷ []))
    -- eight bits are one whole byte
    ∷ writes (unpack_code (all_data 8 2) (255 ∷ []) (lent 8)) (back tt (replicate 8 1))
    -- 14 before 8, 8 before 19
    ∷ writes (unpack_code (all_data 5 3) (255 ∷ []) (lent 4)) (declined 14 4)
    ∷ writes (unpack_code R (51 ∷ 128 ∷ []) (lent 4)) (declined 8 4)
    -- circular reading raises 0 to the top level where d is refused; without acceptance it may differ from a word given back
    ∷ circular R (0 ∷ 1 ∷ 1 ∷ 1 ∷ 1 ∷ []) (given (1, 7 ∷ 1 ∷ 1 ∷ 1 ∷ 1 ∷ []))
    ∷ decodes G (0 ∷ 1 ∷ []) (back 1 (zeros 2))
    ∷ circular G (0 ∷ 1 ∷ []) (given (1, 7 ∷ 1 ∷ []))
    -- it too refuses 11 where no pattern has the syndrome
    ∷ circular Z (0 ∷ 1 ∷ []) (refused 11)
    -- a pattern above the word does not fit, though its subtraction, which stops at 0, leaves a codeword
    ∷ passes (fits (code_of (2 ∷ 1 ∷ 8 ∷ 2 ∷ 1 ∷ 1 ∷ 0 ∷ [])) (zeros 2) (1 ∷ 0 ∷ [])) false
    -- document 01's image
    ∷ checks document_image (given tt)
    ∷ reads_row document_image 2 5 (back (record { entry = 2; outcome = given 2 }) (3 ∷ 5 ∷ 3 ∷ 1 ∷ 1 ∷ []))
    -- `row 2 count 2 levels 3 5 3 1 1`
    ∷ lists document_image
    (114 ∷ 111 ∷ 119 ∷ 32 ∷ 50
    ∷ 32 ∷ 99 ∷ 111 ∷ 117 ∷ 110 ∷ 116 ∷ 32 ∷ 50
    ∷ 32 ∷ 108 ∷ 101 ∷ 118 ∷ 101 ∷ 108 ∷ 115 ∷ 32 ∷ 51 ∷ 32 ∷ 53 ∷ 32 ∷ 51 ∷ 32 ∷ 49 ∷ 32 ∷ 49 ∷ 10 ∷ [])
    -- numbers that are no row's entry
    ∷ reads_row document_image 0 5 (declined 2 5)
    ∷ reads_row document_image 1 5 (declined 2 5)
    ∷ reads_row document_image 3 5 (declined 2 5)
    -- an output row of wrong length is put in the record, and a stack's 11 with its plane, which is not printed: `row 2 refused 11`
    ∷ reads_row document_image 2 4 (back (record { entry = 2; outcome = refused 8 }) (lent 4))
    ∷ reads_row stack_image 2 2 (back (record { entry = 2; outcome = refused_at 11 0 }) (lent 2))
    ∷ lists stack_image (114 ∷ 111 ∷ 119 ∷ 32 ∷ 50 ∷ 32 ∷ 114 ∷ 101 ∷ 102 ∷ 117 ∷ 115 ∷ 101 ∷ 100 ∷ 32 ∷ 49 ∷ 49 ∷ 10 ∷ [])
    -- no row, no line
    ∷ lists (1 ∷ entry 1 0 7 10 ++ R) []
    -- 15: no bytes; no entries; a directory cut short; kinds 0 and 4; a gap; bytes after the last body; `image refused 15`
    ∷ checks [] (refused 15)
    ∷ checks (0 ∷ []) (refused 15)
    ∷ checks (2 ∷ entry 1 0 7 10 ++ R) (refused 15)
    ∷ checks (image_of (entry 1 0 13 10) (entry 0 0 23 5) (R ++ row)) (refused 15)
    ∷ checks (image_of (entry 1 0 13 10) (entry 4 0 23 5) (R ++ row)) (refused 15)
    ∷ checks (image_of (entry 1 0 13 10) (entry 3 1 24 5) (R ++ 0 ∷ row)) (refused 15)
    ∷ checks (image_of (entry 1 0 13 10) (entry 3 1 23 5) (R ++ row ++ 0 ∷ [])) (refused 15)
    ∷ lists [] (105 ∷ 109 ∷ 97 ∷ 103 ∷ 101 ∷ 32 ∷ 114 ∷ 101 ∷ 102 ∷ 117 ∷ 115 ∷ 101 ∷ 100 ∷ 32 ∷ 49 ∷ 53 ∷ 10 ∷ [])
    -- 16: a body that its test refuses; a plan's reference; a row's reference to 0, to itself, to a later plan, to a row
    ∷ checks (image_of (entry 1 0 13 7) (entry 3 1 20 2) (G ++ 0 ∷ 1 ∷ [])) (refused 16)
    ∷ checks (image_of (entry 1 1 13 10) (entry 3 1 23 5) (R ++ row)) (refused 16)
    ∷ checks (image_of (entry 1 0 13 10) (entry 3 0 23 5) (R ++ row)) (refused 16)
    ∷ checks (image_of (entry 1 0 13 10) (entry 3 2 23 5) (R ++ row)) (refused 16)
    ∷ checks (image_of (entry 3 2 13 5) (entry 1 0 18 10) (row ++ R)) (refused 16)
    ∷ checks (3 ∷ entry 1 0 19 10 ++ entry 3 1 29 5 ++ entry 3 2 34 5 ++ R ++ row ++ row) (refused 16)
    -- 15 of a later entry comes before 16
    ∷ checks (image_of (entry 1 0 13 7) (entry 4 0 20 2) (G ++ 0 ∷ 1 ∷ [])) (refused 15)
    ∷ []
