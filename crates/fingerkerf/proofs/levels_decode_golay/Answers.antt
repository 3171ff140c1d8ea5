use Rattle.definitions.specs.Demands.{of_code}
use Rattle.definitions.specs.Golay.{golay_code}
use Rattle.answers.specs.Answering.{answer_of}
use Rattle.numbered_answers.proofs.Standing.{answer_alike, decides_alike, keeps_alike, alike_by}
use Rattle.fingerkerf.proofs.levels_decode_golay.Goals as goal

pub returns-clause-distance_decides : goal.returns-clause-distance_decides
returns-clause-distance_decides c =
    let alike = alike_by (answer_of c.decode.result) c.from.result c.from.ensures.numbers (answer_alike c.decode.result) in
    λ low high even ly lo h.
    decides_alike (of_code (golay_code c.args.q)) c.args.word.now c.decode.new.out alike (c.decode.ensures.distance_decides low high even ly lo h)

pub returns-clause-keeps_messages : goal.returns-clause-keeps_messages
returns-clause-keeps_messages c =
    let alike = alike_by (answer_of c.decode.result) c.from.result c.from.ensures.numbers (answer_alike c.decode.result) in
    λ low high even ly lo h.
    keeps_alike (of_code (golay_code c.args.q)) c.args.word.now c.decode.new.out alike (c.decode.ensures.keeps_messages low high even ly lo h)
