-- Codes: document 01's plans.
use Rattle.std.specs.Prelude.{List, ℕ, ◌-◌, drop}
use Rattle.definitions.specs.Words.{at}

pub record Code : Type 0 where
  -- the cells in a word
  pub n : ℕ
  -- the check cells, which are the last r
  pub r : ℕ
  -- the levels: 0 to q - 1
  pub q : ℕ
  -- the modulus
  pub M : ℕ
  -- the largest magnitude: document 01's largest rise of a cell
  pub l : ℕ
  -- the most cells that may rise
  pub t : ℕ
  -- the matrix: r rows of n - r entries, row by row
  pub A : List ℕ

-- the fields of a description: document 01's plan body
abbrev pub code_of : List ℕ → Code
code_of b = record { n = at b 0; r = at b 1; q = at b 2; M = at b 3; l = at b 4; t = at b 5; A = drop 6 b }

-- the cells before the check cells
abbrev pub data_cells : Code → ℕ
data_cells p = p.n - p.r
