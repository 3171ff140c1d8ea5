use Rattle.std.proofs.Common.{sym, ap, ◌∙◌}
use Rattle.definitions.specs.Acceptance.{Accepted}
use Rattle.definitions.specs.Demands.{of_code, DistanceDecides, KeepsMessages}
use Rattle.answers.specs.Answering.{answer_with}
use Rattle.opening.specs.Viewed.{code, opened_as}
use Rattle.code_decoding.specs.Counts.{count_of}
use Rattle.codec.proofs.Opens.{code_reads}
use Rattle.codec.proofs.Tries.{unopened, tries, place}
use Rattle.codec.proofs.codes.decode.Goals as goal

pub returns-in_default-clause-tried : goal.returns-in_default-clause-tried
returns-in_default-clause-tried c =
    unopened c.args.body.now c.args.received.now c.args.out.now c.unwrap_err.result
    (sym (ap opened_as c.unwrap_err.ensures) ∙ c.open-opened.ensures)

pub returns-clause-tried : goal.returns-clause-tried
returns-clause-tried c =
    tries c.args.body.now (code c.in-Ok.code) c.in-Ok.ensures c.args.received.now c.args.out.now c.decode.result c.decode.new.out
    c.decode.ensures.result c.decode.ensures.told

pub returns-clause-tried_is_place : goal.returns-clause-tried_is_place
returns-clause-tried_is_place c =
    place c.args.body.now (code c.in-Ok.code) c.in-Ok.ensures c.args.received.now c.args.out.now c.decode.result c.decode.new.out
    c.decode.ensures.result c.decode.ensures.told

pub returns-clause-distance_decides : goal.returns-clause-distance_decides
returns-clause-distance_decides c =
    code_reads c.args.body.now c.args.received.now c.args.out.now (code c.in-Ok.code) c.in-Ok.ensures
    (λ p. Accepted p → DistanceDecides (of_code p) c.args.received.now (answer_with count_of c.decode.result) c.decode.new.out)
    c.decode.ensures.distance_decides

pub returns-clause-keeps_messages : goal.returns-clause-keeps_messages
returns-clause-keeps_messages c =
    code_reads c.args.body.now c.args.received.now c.args.out.now (code c.in-Ok.code) c.in-Ok.ensures
    (λ p. Accepted p → KeepsMessages (of_code p) c.args.received.now (answer_with count_of c.decode.result) c.decode.new.out)
    c.decode.ensures.keeps_messages
