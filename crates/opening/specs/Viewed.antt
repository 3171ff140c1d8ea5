-- A code, opened or in parts, as the definitions have it.
use Rattle.std.specs.Prelude.{not, Result, List, ℕ, ltb}
use Rattle.definitions.specs.Words.{all_below}
use Rattle.definitions.specs.Answers.{Answer, given, refuse◌when◌else◌}
use Rattle.definitions.specs.Codes as codes
use Rattle.definitions.specs.Patterns.{pattern_count}
use Rattle.answers.specs.declared.Refusal.{Refusal}
use Rattle.answers.specs.Answering.{answer_with}
use Rattle.opening.specs.declared.Code.{Code}
use Rattle.opening.specs.declared.Parameters.{Parameters}

-- the code with these parameters and this matrix
abbrev pub code_with : Parameters → List ℕ → codes.Code
code_with p A = record { n = p.n; r = p.r; q = p.q; M = p.m; l = p.l; t = p.t; A = A }

abbrev pub code : Code → codes.Code
code p = record { n = p.n; r = p.r; q = p.q; M = p.m; l = p.l; t = p.t; A = p.matrix.now }

-- what opening a code, or a plane, answered
abbrev pub opened_as : Result Code Refusal → Answer codes.Code
opened_as = answer_with code

-- 4 and 5, the last tests of an opening
abbrev pub matrix_tested : codes.Code → Answer codes.Code
matrix_tested p =
    refuse 4 when not (all_below p.M p.A) else
    refuse 5 when ltb 4096 (pattern_count p) else
    given p
