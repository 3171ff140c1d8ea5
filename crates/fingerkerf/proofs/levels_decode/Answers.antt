use Rattle.definitions.specs.Demands.{of_code}
use Rattle.answers.specs.Answering.{answer_with}
use Rattle.code_decoding.specs.Counts.{count_of}
use Rattle.numbered_answers.proofs.Standing.{read_alike, decides_alike, some_alike, keeps_alike, alike_by}
use Rattle.fingerkerf.proofs.levels_decode.Goals as goal

pub returns-clause-distance_decides : goal.returns-clause-distance_decides
returns-clause-distance_decides c =
    let alike = alike_by (answer_with count_of c.decode.result) c.from.result c.from.ensures.numbers (read_alike count_of c.decode.result) in
    λ p o ly lo h f. decides_alike (of_code p) c.args.word.now c.decode.new.out alike (c.decode.ensures.distance_decides p o ly lo h f)

pub returns-clause-some_codeword : goal.returns-clause-some_codeword
returns-clause-some_codeword c =
    let alike = alike_by (answer_with count_of c.decode.result) c.from.result c.from.ensures.numbers (read_alike count_of c.decode.result) in
    λ p o ly lo h. some_alike (of_code p) c.args.word.now c.decode.new.out alike (c.decode.ensures.some_codeword p o ly lo h)

pub returns-clause-keeps_messages : goal.returns-clause-keeps_messages
returns-clause-keeps_messages c =
    let alike = alike_by (answer_with count_of c.decode.result) c.from.result c.from.ensures.numbers (read_alike count_of c.decode.result) in
    λ p o ly lo h f. keeps_alike (of_code p) c.args.word.now c.decode.new.out alike (c.decode.ensures.keeps_messages p o ly lo h f)
