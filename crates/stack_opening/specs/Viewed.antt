-- An opened stack as the definitions have it.
use Rattle.std.specs.Prelude.{Result, List, take}
use Rattle.definitions.specs.Answers.{Answer}
use Rattle.definitions.specs.Stacks as stacks
use Rattle.answers.specs.declared.Refusal.{Refusal}
use Rattle.answers.specs.Answering.{answer_with}
use Rattle.stack_opening.specs.declared.plane.Plane.{Plane}
use Rattle.stack_opening.specs.declared.Stack.{Stack}
use Rattle.stack_opening.specs.Planes.{as_codes}

-- the planes that were opened
abbrev pub planes_of : Stack → List Plane
planes_of s = take s.m s.all

abbrev pub stack : Stack → stacks.Stack
stack s = record { n = s.n; planes = as_codes (planes_of s) }

abbrev pub opened_as : Result Stack Refusal → Answer stacks.Stack
opened_as = answer_with stack
