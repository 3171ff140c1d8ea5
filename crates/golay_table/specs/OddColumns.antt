-- The columns of the cells with an odd level.
use Rattle.std.specs.Prelude.{List, ℕ, ◌*◌, ◌%◌}
use Rattle.std.specs.Simd.Lanes.{zip2}

-- cell by cell the column where the level is odd, else 0
abbrev pub odd_columns : List ℕ → List ℕ → List ℕ
odd_columns levels columns = zip2 (λ v c. c * (v % 2)) levels columns
