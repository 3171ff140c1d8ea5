use Rattle.std.proofs.Common.{◌≤◌, ◌∙◌, ap, subst, List, ℕ, length, replicate}
use Rattle.answers.specs.Answering.{outcome_as}
use Rattle.row_reading.specs.Records.{CheckedRow}
use Rattle.row_lines.proofs.Putting.{adds_as}
use Rattle.row_lines.proofs.Texts.{row-short}
use Rattle.listing.proofs.AllLines.{read_small, read_printable, read_line, take-zeros}
use Rattle.listing.proofs.put_row.Goals as goal

pub row-requires-clause-small : goal.row-requires-clause-small
row-requires-clause-small c =
    let row = c.args.row in
    let checked : CheckedRow row.image.bytes.now row.number = record { checked = row.image.checked; row = row.row } in (
      read_small row.image.bytes.now row.number checked c.read-record.result _ _ c.read-record.ensures,
      read_printable row.image.bytes.now row.number checked c.read-record.result _ _ c.read-record.ensures,
    )

pub returns : goal.returns
returns c =
    let row = c.args.row in
    let checked : CheckedRow row.image.bytes.now row.number = record { checked = row.image.checked; row = row.row } in
    let zeros = take-zeros c.cells.result 64 c.cells.ensures.1 ∙ ap (λ (m : ℕ). replicate m 0) c.cells.ensures.0 in
    let z = read_line row.image.bytes.now row.number checked c.read-record.result _ _ c.read-record.ensures zeros in
    record {
      adds = adds_as z c.row.ensures;
      short =
          subst (λ (t : List ℕ). length t ≤ 256) z
          (row-short c.read-record.result.entry (outcome_as c.read-record.result.outcome) c.read-record.new.out
          (read_printable row.image.bytes.now row.number checked c.read-record.result _ _ c.read-record.ensures));
    }
