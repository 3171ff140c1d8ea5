-- Digit planes: document 01's stacks.
use Rattle.std.specs.Prelude.{Bool, true, ◌&&◌, List, [], ◌∷◌, map, ℕ, ◌*◌, ◌/◌, ◌%◌}
use Rattle.definitions.specs.Codes.{Code}

pub record Stack : Type 0 where
  -- the cells in a word
  pub n : ℕ
  -- plane 0 first; a plane whose digits are below c is a code with q = M = c and l = c - 1
  pub planes : List Code

-- the product of all c
abbrev pub product : List Code → ℕ
product [] = 1
product (p ∷ ps) = p.M * product ps

-- the stack's q
abbrev pub levels : Stack → ℕ
levels S = product S.planes

-- at each cell, the digit of place value w (document 01: weight w) that is below c
abbrev pub digits : ℕ → ℕ → List ℕ → List ℕ
digits w c x = map (λ v. v / w % c) x

-- R holds of each plane and its place value: w for the first, and for each next one times c
abbrev pub EachPlane : (ℕ → Code → Type 0) → ℕ → List Code → Type 0
EachPlane R w [] = Unit {0}
EachPlane R w (p ∷ ps) = R w p × EachPlane R (w * p.M) ps

-- the same for a test
abbrev pub all_planes : (ℕ → Code → Bool) → ℕ → List Code → Bool
all_planes f w [] = true
all_planes f w (p ∷ ps) = f w p && all_planes f (w * p.M) ps
