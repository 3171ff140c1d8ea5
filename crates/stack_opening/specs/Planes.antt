-- Planes as codes, and the place value of each.
use Rattle.std.specs.Prelude.{List, [], ◌∷◌, map, ℕ, ◌*◌}
use Rattle.definitions.specs.Codes as codes
use Rattle.opening.specs.Viewed.{code}
use Rattle.stack_opening.specs.declared.plane.Plane.{Plane}

abbrev pub as_codes : List Plane → List codes.Code
as_codes planes = map (λ (p : Plane). code p.code) planes

-- w for the first, and for each next one times c
abbrev pub place_values : ℕ → List codes.Code → List ℕ
place_values w [] = []
place_values w (p ∷ ps) = w ∷ place_values (w * p.M) ps
