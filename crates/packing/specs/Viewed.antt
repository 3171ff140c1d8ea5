-- An opened code whose messages can be bytes, as the definitions have it.
use Rattle.std.specs.Prelude.{Result}
use Rattle.definitions.specs.Answers.{Answer}
use Rattle.definitions.specs.Codes.{Code}
use Rattle.answers.specs.Answering.{answer_with}
use Rattle.answers.specs.declared.Refusal.{Refusal}
use Rattle.opening.specs.Viewed.{code}
use Rattle.packing.specs.declared.Packing.{Packing}

abbrev pub opened_as : Result Packing Refusal → Answer Code
opened_as = answer_with (λ p. code p.code)
