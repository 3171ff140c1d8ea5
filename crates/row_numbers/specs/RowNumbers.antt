-- What the numbers that stand for the answer of reading a row entry are.
use Rattle.std.specs.Prelude.{◌≡◌, ℕ, zero, suc}
use Rattle.definitions.specs.Answers.{Answer, given, refused, refused_at}
use Rattle.definitions.specs.Images.{RowRecord}
use Rattle.numbered_answers.specs.Numbers.{number_of, count_of, answer_plane, count_by}
use Rattle.row_numbers.specs.declared.RowNumbers.{RowNumbers}

-- a part of the record, or 0
abbrev pub part_of : (RowRecord → ℕ) → Answer RowRecord → ℕ
part_of f (given r) = f r
part_of f (refused k) = 0
part_of f (refused_at k j) = 0

-- the numbers r stand for the answer of reading a row entry
pub record RowNumbered (a : Answer RowRecord) (r : RowNumbers) : Type 0 where
  pub number_is : r.number ≡ number_of a
  pub entry_is : r.entry ≡ part_of (λ x. x.entry) a
  pub refusal_is : r.refusal ≡ part_of (λ x. number_of x.outcome) a
  pub count_is : r.count ≡ part_of (λ x. count_of x.outcome) a
  pub plane_is : r.plane ≡ part_of (λ x. answer_plane x.outcome) a

-- the answer that the numbers stand for
abbrev pub row_by : ℕ → RowNumbers → Answer RowRecord
row_by zero r = given (record { entry = r.entry; outcome = count_by r.refusal r.count })
row_by (suc k) r = refused (suc k)
