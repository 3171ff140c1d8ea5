-- What a word's digits are, over a stack's planes.
use Rattle.std.specs.Prelude.{List, [], ◌∷◌, ◌++◌, Bool, ℕ, ◌+◌, ◌*◌, ◌-◌, take, drop}
use Rattle.definitions.specs.Words.{at, all_zero}
use Rattle.definitions.specs.Codewords.{syndrome}
use Rattle.definitions.specs.Stacks.{digits}
use Rattle.definitions.specs.StackMessages.{encode_plane}
use Rattle.opening.specs.Viewed.{code}
use Rattle.stack_opening.specs.declared.plane.Plane.{Plane}

-- the digits of a plane have syndrome 0
abbrev pub zero_digits : List ℕ → Plane → Bool
zero_digits c p = all_zero (syndrome (code p.code) (digits p.w p.code.m c))

-- plane by plane, the digits before the check cells
abbrev pub parts : List ℕ → List Plane → List ℕ
parts c [] = []
parts c (p ∷ ps) = take (p.code.n - p.code.r) (digits p.w p.code.m c) ++ parts c ps

-- the level of cell i + 1 whose digits are those of the planes' codewords
abbrev pub level_sum : ℕ → List Plane → List ℕ → ℕ
level_sum i [] s = 0
level_sum i (p ∷ ps) s = at (encode_plane (code p.code) s) i * p.w + level_sum i ps (drop (p.code.n - p.code.r) s)
