-- What the distance decides of a record it decides of the numbers that stand for it.
use Rattle.std.proofs.Common.{◌∙◌, List, ℕ, Result, Ok, Err}
use Rattle.definitions.specs.Demands.{Coding}
use Rattle.answers.specs.Answering.{answer_with, refused_as}
use Rattle.answers.specs.declared.Refusal.{Refusal}
use Rattle.answers.specs.declared.Refusal.TheVariants.{NoPatternInPlane}
use Rattle.row_reading.specs.Records.{record_as}
use Rattle.row_reading.specs.RowClauses.{RecordDecides}
use Rattle.row_reading.specs.declared.Record.{Record}
use Rattle.numbered_answers.proofs.Standing.{outcome_alike, decides_alike}
use Rattle.row_numbers.specs.declared.RowNumbers.{RowNumbers}
use Rattle.row_numbers.specs.RowNumbers.{RowNumbered, row_by}

module _ (K : Coding) (y : List ℕ) (k : ℕ) (out : List ℕ) where
  not_plain : (x : Refusal) → RecordDecides K y k (refused_as x) out → ⊥
  not_plain (NoPatternInPlane j) h = h
  not_plain x h = h

  pub decides_by :
      (a : Result Record Refusal) (r : RowNumbers) → RowNumbered (answer_with record_as a) r → RecordDecides K y k (answer_with record_as a) out
      → RecordDecides K y k (row_by r.number r) out
  decides_by (Ok c) r n h =
      let o = outcome_alike c.outcome in
      let zero_is = n.number_is in
      let e = n.refusal_is in
      let f = n.count_is in
      rw zero_is (n.entry_is ∙ h.0, rw (e, f) (decides_alike K y out o h.1))
  decides_by (Err x) r n h = absurd (not_plain x h)
