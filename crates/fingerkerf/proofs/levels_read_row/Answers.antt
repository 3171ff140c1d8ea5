use Rattle.definitions.specs.Demands.{of_code, of_stack}
use Rattle.definitions.specs.Images.{body_of}
use Rattle.row_numbers.proofs.Deciding.{decides_by}
use Rattle.fingerkerf.proofs.levels_read_row.Goals as goal

pub returns-clause-plan_decides : goal.returns-clause-plan_decides
returns-clause-plan_decides c =
    let y = body_of c.args.image.now c.args.entry in
    λ r kind p o ly lo h.
    decides_by (of_code p) y c.args.entry c.read_row.new.out c.read_row.result c.from.result c.from.ensures
    (c.read_row.ensures.plan_decides r kind p o ly lo h)

pub returns-clause-stack_decides : goal.returns-clause-stack_decides
returns-clause-stack_decides c =
    let y = body_of c.args.image.now c.args.entry in
    λ r kind S o ly lo h.
    decides_by (of_stack S) y c.args.entry c.read_row.new.out c.read_row.result c.from.result c.from.ensures
    (c.read_row.ensures.stack_decides r kind S o ly lo h)
