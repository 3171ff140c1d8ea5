-- What a row's record means in numbers and values.
use Rattle.std.specs.Prelude.{◌≡◌, true, List, ℕ}
use Rattle.definitions.specs.Answers.{given}
use Rattle.definitions.specs.Images.{RowRecord, check_image, is_row}
use Rattle.answers.specs.Answering.{outcome_as}
use Rattle.row_reading.specs.declared.Record.{Record}

abbrev pub record_as : Record → RowRecord
record_as r = record { entry = r.entry; outcome = outcome_as r.outcome }

-- the image x passed its check, and k is a row's number
pub record CheckedRow (x : List ℕ) (k : ℕ) : Type 0 where
  pub checked : check_image x ≡ given tt
  pub row : is_row x k ≡ true
