-- What the program cartlist prints for an image, as bytes: a line for each row entry, or a single line for a refused image.
use Rattle.std.specs.Prelude.{cond, not, List, [], ◌∷◌, ◌++◌, ℕ, ◌+◌, ◌/◌, ◌%◌, eqb, ltb, length, drop, replicate}
use Rattle.definitions.specs.Words.{at}
use Rattle.definitions.specs.Answers.{Answer, given, refused, refused_at, Result, refuse◌when◌else◌, result}
use Rattle.definitions.specs.Images.{entry_at, entry_numbers, body_of, check_image, reference_of, decode_row}

-- the texts of the lines, in ASCII
-- "row "
abbrev pub row_text : List ℕ
row_text = 114 ∷ 111 ∷ 119 ∷ 32 ∷ []

-- " count "
abbrev pub count_text : List ℕ
count_text = 32 ∷ 99 ∷ 111 ∷ 117 ∷ 110 ∷ 116 ∷ 32 ∷ []

-- " levels"
abbrev pub levels_text : List ℕ
levels_text = 32 ∷ 108 ∷ 101 ∷ 118 ∷ 101 ∷ 108 ∷ 115 ∷ []

-- " refused "
abbrev pub refused_text : List ℕ
refused_text = 32 ∷ 114 ∷ 101 ∷ 102 ∷ 117 ∷ 115 ∷ 101 ∷ 100 ∷ 32 ∷ []

-- "image"
abbrev pub image_text : List ℕ
image_text = 105 ∷ 109 ∷ 97 ∷ 103 ∷ 101 ∷ []

-- each line ends with it
abbrev pub newline : List ℕ
newline = 10 ∷ []

abbrev pub digit : ℕ → ℕ
digit d = 48 + d

-- a number below 100 in decimal. Those of a line are: an entry is at most 32, a count and a level at most 64, a refusal at most 16
abbrev pub decimal : ℕ → List ℕ
decimal n = cond (ltb n 10) (digit n ∷ []) (digit (n / 10) ∷ digit (n % 10) ∷ [])

-- each level after a space
abbrev pub spaced : List ℕ → List ℕ
spaced [] = []
spaced (v ∷ vs) = 32 ∷ decimal v ++ spaced vs

-- "The fields are entry, changed cells, levels. A refused row prints `row 2 refused 11`, without the plane for a stack"
abbrev pub outcome_text : Answer ℕ → List ℕ → List ℕ
outcome_text (given count) levels = count_text ++ decimal count ++ levels_text ++ spaced levels
outcome_text (refused k) levels = refused_text ++ decimal k
outcome_text (refused_at k j) levels = refused_text ++ decimal k

-- entry k, what reading it answered and what the output row holds
abbrev pub row_line : ℕ → Result ℕ → List ℕ
row_line k r = row_text ++ decimal k ++ outcome_text r.answer r.out ++ newline

-- the line of row k: its output row has the n of the plan or stack that its reference names
abbrev pub line_of : List ℕ → ℕ → List ℕ
line_of x k = row_line k (decode_row x k (replicate (at (body_of x (reference_of x k)) 0) 0))

-- only a row has a line
abbrev pub entry_line : List ℕ → ℕ → List ℕ
entry_line x k = cond (eqb (entry_at x k).kind 3) (line_of x k) []

-- the lines of the entries ks
abbrev pub row_lines : List ℕ → List ℕ → List ℕ
row_lines x [] = []
row_lines x (k ∷ ks) = entry_line x k ++ row_lines x ks

-- "a refused image is the single line `image refused 15` or 16"
abbrev pub image_line : ℕ → List ℕ
image_line k = image_text ++ refused_text ++ decimal k ++ newline

abbrev pub lines_after : Answer (Unit {0}) → List ℕ → List ℕ
lines_after (given u) rows = rows
lines_after (refused k) rows = image_line k
lines_after (refused_at k j) rows = image_line k

unfoldable pub lines_of : List ℕ → List ℕ
lines_of x = lines_after (check_image x) (row_lines x (entry_numbers x))

-- the lines at the start of an output buffer of 8,192 bytes, which holds those of any image; what is given is how many bytes they are
unfoldable pub list_image : List ℕ → List ℕ → Result ℕ
list_image x out =
    result
    (refuse 8 when not (eqb (length out) 8192) else
    given (length (lines_of x), lines_of x ++ drop (length (lines_of x)) out))
    out
