-- Circular reading, as the customer describes its old program: the first pattern with the word's syndrome, lowered modulo q.
-- Not of document 01: here a level never wraps round in a code.
use Rattle.std.specs.Prelude.{List, ℕ}
use Rattle.std.proofs.Math.Option.{Option, none, some}
use Rattle.definitions.specs.Words.{weight}
use Rattle.definitions.specs.Answers.{Answer, given, refused}
use Rattle.definitions.specs.Codes.{Code}
use Rattle.definitions.specs.StackDecoding.{first_with_syndrome, lowered}

abbrev pub circular_by : Code → List ℕ → Option (List ℕ) → Answer (ℕ × List ℕ)
circular_by p y none = refused 11
circular_by p y (some e) = given (weight e, lowered p.q 1 y e)

unfoldable pub decode_circular : Code → List ℕ → Answer (ℕ × List ℕ)
decode_circular p y = circular_by p y (first_with_syndrome p y)
