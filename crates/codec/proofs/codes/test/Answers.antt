use Rattle.definitions.specs.Acceptance.{Accepted}
use Rattle.definitions.specs.CodeOperations.{open_code}
use Rattle.definitions.specs.Demands.{Tested}
use Rattle.answers.specs.Answering.{answer_of}
use Rattle.opening.specs.Viewed.{code}
use Rattle.codec.proofs.Opens.{where_opens}
use Rattle.codec.proofs.codes.test.Goals as goal

pub returns-clause-accepted : goal.returns-clause-accepted
returns-clause-accepted c =
    where_opens (open_code c.args.body.now) (code c.in-Ok.code) c.in-Ok.ensures (λ p. Tested (Accepted p) (answer_of c.test.result))
    c.test.ensures.accepted
