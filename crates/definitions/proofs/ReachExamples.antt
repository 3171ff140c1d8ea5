-- Within reach, at document 01's examples.
use mathlib.Core.List.{[], ◌∷◌}
use native.Mathlib.Omega.{arith}
use lib.Dec.{lit≤}
use Rattle.definitions.specs.Codes.{Code, code_of}
use Rattle.definitions.specs.Stacks.{Stack}
use Rattle.definitions.specs.StackOperations.{plane_of}
use Rattle.definitions.specs.Reach.{Reach, StackReach}
use Rattle.definitions.specs.Examples.{R}

-- b: 3 5 3 1 1 is within reach of 4 5 3 2 1
pub example_b : Reach (code_of R) (4 ∷ 5 ∷ 3 ∷ 2 ∷ 1 ∷ []) (3 ∷ 5 ∷ 3 ∷ 1 ∷ 1 ∷ [])
unfolding R
example_b = record { cells = omega arith; few = lit≤ tt }

-- d: what circular reading gives for 0 1 1 1 1 is not within its reach
pub example_d : Reach (code_of R) (0 ∷ 1 ∷ 1 ∷ 1 ∷ 1 ∷ []) (7 ∷ 1 ∷ 1 ∷ 1 ∷ 1 ∷ []) → ⊥
unfolding R
example_d h = let c = h.cells.0.0 in omega arith

-- S as it opens
abbrev plane : Code
plane = plane_of 3 (2 ∷ 2 ∷ 1 ∷ 1 ∷ 1 ∷ [])

abbrev pub three : Stack
three = record { n = 3; planes = plane ∷ plane ∷ plane ∷ [] }

-- i: one cell is changed in three planes
pub example_i : StackReach three (5 ∷ 5 ∷ 4 ∷ []) (5 ∷ 5 ∷ 5 ∷ [])
example_i = (lit≤ tt, (lit≤ tt, (lit≤ tt, tt)))

-- j: two cells are changed, one in each of two planes, where each plane allows one digit
pub example_j : StackReach three (0 ∷ 1 ∷ 7 ∷ []) (7 ∷ 7 ∷ 7 ∷ [])
example_j = (lit≤ tt, (lit≤ tt, (lit≤ tt, tt)))
