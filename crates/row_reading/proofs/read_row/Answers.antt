use Rattle.std.proofs.Common.{◌∙◌, sym, ap}
use Rattle.row_reading.specs.Opening.{opened_as}
use Rattle.row_reading.proofs.Rows.{not_opened, read_of}
use Rattle.row_reading.proofs.Clauses.{read_clauses}
use Rattle.row_reading.proofs.read_row.Goals as goal

pub returns-in_default-clause-result : goal.returns-in_default-clause-result
returns-in_default-clause-result c =
    not_opened c.args.image.now c.args.entry c.args.out.now c.unwrap_err.result (sym (ap opened_as c.unwrap_err.ensures) ∙ c.open-opened.ensures)

pub returns : goal.returns
returns c =
    let row = c.in-Ok.row in
    let h = read_clauses c.args.image.now c.args.entry c.args.out.now
    (read_of c.args.image.now c.args.entry c.args.out.now row.image.bytes.now row.number c.in-Ok.ensures _ _ c.read.ensures) in
    record { result = h.0; plan_decides = h.1.0; stack_decides = h.1.1 }
