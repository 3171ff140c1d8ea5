-- Messages of a code: encoding (document 01: write) and recovery.
use Rattle.std.specs.Prelude.{◌≡◌, Bool, ◌&&◌, List, ◌++◌, map, ℕ, ◌+◌, ◌*◌, ◌-◌, ◌/◌, ◌%◌, ◌<◌, length, take, drop}
use Rattle.definitions.specs.Words.{at, sum_to, up_from, all_below, EachCell}
use Rattle.definitions.specs.Codes.{Code, data_cells}

-- n symbols, below q before the check cells and below floor(q / M) at them
pub record Message (p : Code) (s : List ℕ) : Type 0 where
  pub long : length s ≡ p.n
  pub levels : EachCell (λ v. v < p.q) (take (data_cells p) s)
  pub checks : EachCell (λ v. v < p.q / p.M) (drop (data_cells p) s)

-- the bounds as a test
unfoldable pub symbols_fit : Code → List ℕ → Bool
symbols_fit p s = all_below p.q (take (data_cells p) s) && all_below (p.q / p.M) (drop (data_cells p) s)

-- the message that a word carries: the level of each cell, and floor(level / M) of each check cell
unfoldable pub message : Code → List ℕ → List ℕ
message p c = take (data_cells p) c ++ map (λ v. v / p.M) (drop (data_cells p) c)

-- check cell k + 1: floor(level / M) is its symbol, and its level modulo M makes the residue 0
unfoldable pub check_level : Code → List ℕ → ℕ → ℕ
check_level p s k =
    p.M * at s (data_cells p + k)
    + (p.M - sum_to (data_cells p) (λ j. at p.A (k * data_cells p + j) * at s j) % p.M) % p.M

unfoldable pub encode : Code → List ℕ → List ℕ
encode p s = take (data_cells p) s ++ map (check_level p s) (up_from 0 p.r)
