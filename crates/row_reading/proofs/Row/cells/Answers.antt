use Rattle.std.proofs.Common.{◌∙◌, ap, length, arith}
use Rattle.definitions.specs.Words.{at}
use Rattle.definitions.specs.Images.{body_of}
use Rattle.row_reading.proofs.Cells.{row_first}
use Rattle.row_reading.proofs.Row.cells.Goals as goal

pub bounds-body-0 : goal.bounds-body-0
bounds-body-0 c =
    let row = c.args.self.now in
    let body-is = c.body.ensures ∙ ap (body_of row.image.bytes.now) c.reference.ensures.is in
    omega (arith, (row_first row.image.bytes.now row.number (record { checked = row.image.checked; row = row.row })).there, ap length body-is)

pub returns : goal.returns
returns c =
    let row = c.args.self.now in
    let body-is = c.body.ensures ∙ ap (body_of row.image.bytes.now) c.reference.ensures.is in
    let e = c.from.ensures ∙ ap (λ b. at b 0) body-is in
    (e, omega (arith, (row_first row.image.bytes.now row.number (record { checked = row.image.checked; row = row.row })).high, e))
