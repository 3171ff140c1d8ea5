-- What opening a row entry answers.
use Rattle.std.specs.Prelude.{not, List, ℕ, Result}
use Rattle.definitions.specs.Answers.{Answer, given, refuse◌when◌else◌, after}
use Rattle.definitions.specs.Images.{is_row, check_image}
use Rattle.answers.specs.Answering.{answer_with}
use Rattle.answers.specs.declared.Refusal.{Refusal}
use Rattle.row_reading.specs.declared.Row.{Row}

-- the image x and the number k of a row's entry; or why the image is refused, or 2
abbrev pub open_row : List ℕ → ℕ → Answer (List ℕ × ℕ)
open_row x k =
    after (check_image x) λ u.
    refuse 2 when not (is_row x k) else
    given (x, k)

-- a row by its image and its number
abbrev pub opened_as : Result Row Refusal → Answer (List ℕ × ℕ)
opened_as = answer_with (λ (row : Row). (row.image.bytes.now, row.number))
