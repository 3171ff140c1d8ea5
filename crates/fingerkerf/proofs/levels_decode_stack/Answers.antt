use Rattle.definitions.specs.Demands.{of_stack}
use Rattle.answers.specs.Answering.{answer_of}
use Rattle.numbered_answers.proofs.Standing.{answer_alike, decides_alike, within_alike, alike_by}
use Rattle.fingerkerf.proofs.levels_decode_stack.Goals as goal

pub returns-clause-distance_decides : goal.returns-clause-distance_decides
returns-clause-distance_decides c =
    let alike = alike_by (answer_of c.decode_stack.result) c.from.result c.from.ensures.numbers (answer_alike c.decode_stack.result) in
    λ S o ly lo h f. decides_alike (of_stack S) c.args.word.now c.decode_stack.new.out alike (c.decode_stack.ensures.distance_decides S o ly lo h f)

pub returns-clause-within_reach : goal.returns-clause-within_reach
returns-clause-within_reach c =
    let alike = alike_by (answer_of c.decode_stack.result) c.from.result c.from.ensures.numbers (answer_alike c.decode_stack.result) in
    λ S o ly lo h. within_alike (of_stack S) c.args.word.now c.decode_stack.new.out alike (c.decode_stack.ensures.within_reach S o ly lo h)
