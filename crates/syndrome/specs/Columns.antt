-- The columns of a code's matrix, and a syndrome as an array.
use Rattle.std.specs.Prelude.{◌≡◌, cond, List, ℕ, ◌+◌, ◌*◌, ◌-◌, ◌%◌, eqb, ltb}
use Rattle.definitions.specs.Words.{at, sum_to}
use Rattle.definitions.specs.Codes.{Code, data_cells}
use Rattle.definitions.specs.Codewords.{syndrome_entry}

-- entry i of the column of cell c: the matrix's, or a check cell's unit column
unfoldable pub column : Code → ℕ → ℕ → ℕ
column p i c = cond (ltb c (data_cells p)) (at p.A (i * data_cells p + c)) (cond (eqb c (data_cells p + i)) 1 0)

-- s has the syndrome of x, and 0 beyond its r entries: there the matrix has no row and x no cell
abbrev pub Syndrome : Code → List ℕ → List ℕ → Type 0
Syndrome p x s = (i : ℕ) → at s i ≡ syndrome_entry p x i

-- what makes entry i 0 at check cell i + 1, below M
abbrev pub filling_of : Code → List ℕ → ℕ → ℕ
filling_of p x i = (p.M - sum_to (data_cells p) (λ j. at p.A (i * data_cells p + j) * at x j) % p.M) % p.M
