use Rattle.std.proofs.Common.{◌≡◌, ◌∙◌, sym, ap, arith}
use Rattle.answers.specs.Answering.{leaves}
use Rattle.directory.specs.Entries.{kind_number}
use Rattle.row_reading.proofs.Rows.{plan_decoded, stack_decoded, never, none}
use Rattle.row_reading.proofs.Row.decode.Goals as goal

pub returns-in-Some-Plan : goal.returns-in-Some-Plan
returns-in-Some-Plan c =
    let row = c.args.self.now in
    plan_decoded row.image.bytes.now row.number c.reference-reference.result c.reference-reference.ensures.is c.entry_at.result c.entry_at.ensures.0
    c.body-body.result.now c.body-word.result.now c.args.out.now c.body-body.ensures c.body-word.ensures
    (sym c.in-Some-Plan.ensures ∙ ap kind_number c.in-Some-Plan.field-0-is) c.decode_by_plan.ensures

pub returns-in-Some-Stack : goal.returns-in-Some-Stack
returns-in-Some-Stack c =
    let row = c.args.self.now in
    stack_decoded row.image.bytes.now row.number c.reference-reference.result c.reference-reference.ensures.is c.entry_at.result c.entry_at.ensures.0
    c.body-body.result.now c.body-word.result.now c.args.out.now c.body-body.ensures c.body-word.ensures
    (sym c.in-Some-Stack.ensures ∙ ap kind_number c.in-Some-Stack.field-0-is)
    (ap (λ a. leaves a c.decode_stack.new.out) c.from.ensures ∙ c.decode_stack.ensures.result)

pub returns-in-Some-Row : goal.returns-in-Some-Row
returns-in-Some-Row c =
    let row = c.args.self.now in
    let kind : c.entry_at.result.kind ≡ 3 = sym c.in-Some-Row.ensures ∙ ap kind_number c.in-Some-Row.field-0-is in
    absurd
    (never row.image.bytes.now row.number c.reference-reference.result c.reference-reference.ensures.is c.entry_at.result c.entry_at.ensures.0
    row.image.checked row.row (λ h. omega (arith, h, kind)) (λ h. omega (arith, h, kind)))

pub returns-in-None : goal.returns-in-None
returns-in-None c =
    let row = c.args.self.now in
    absurd
    (none row.image.bytes.now row.number c.reference-reference.result c.reference-reference.ensures.is c.entry_at.result c.entry_at.ensures.0
    row.image.checked row.row c.in-None.ensures)
