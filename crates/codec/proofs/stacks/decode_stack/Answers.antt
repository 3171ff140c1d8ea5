use Rattle.definitions.specs.StackCodewords.{AcceptedStack}
use Rattle.definitions.specs.Demands.{of_stack, DistanceDecides, GivenWithinReach, KeepsMessages}
use Rattle.answers.specs.Answering.{answer_of}
use Rattle.stack_opening.specs.Viewed.{stack}
use Rattle.codec.proofs.Opens.{stack_reads}
use Rattle.codec.proofs.stacks.decode_stack.Goals as goal

pub returns-clause-distance_decides : goal.returns-clause-distance_decides
returns-clause-distance_decides c =
    stack_reads c.args.body.now c.args.received.now c.args.out.now (stack c.in-Ok.stack) c.in-Ok.ensures
    (λ S. AcceptedStack S → DistanceDecides (of_stack S) c.args.received.now (answer_of c.decode.result) c.decode.new.out)
    c.decode.ensures.distance_decides

pub returns-clause-within_reach : goal.returns-clause-within_reach
returns-clause-within_reach c =
    stack_reads c.args.body.now c.args.received.now c.args.out.now (stack c.in-Ok.stack) c.in-Ok.ensures
    (λ S. GivenWithinReach (of_stack S) c.args.received.now (answer_of c.decode.result) c.decode.new.out) c.decode.ensures.always

pub returns-clause-keeps_messages : goal.returns-clause-keeps_messages
returns-clause-keeps_messages c =
    stack_reads c.args.body.now c.args.received.now c.args.out.now (stack c.in-Ok.stack) c.in-Ok.ensures
    (λ S. AcceptedStack S → KeepsMessages (of_stack S) c.args.received.now (answer_of c.decode.result) c.decode.new.out)
    c.decode.ensures.keeps_messages
