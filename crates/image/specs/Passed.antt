-- What checking an image answered.
use Rattle.std.specs.Prelude.{Result}
use Rattle.definitions.specs.Answers.{Answer}
use Rattle.answers.specs.declared.Refusal.{Refusal}
use Rattle.answers.specs.Answering.{answer_with}
use Rattle.image.specs.declared.Image.{Image}

abbrev pub checked_as : Result Image Refusal → Answer (Unit {0})
checked_as = answer_with (λ (x : Image). tt)
