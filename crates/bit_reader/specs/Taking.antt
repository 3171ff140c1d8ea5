-- Taking the symbols of a message from bytes, one after another.
use Rattle.std.specs.Prelude.{cond, List, map, ℕ, ◌≤◌, ltb}
use Rattle.definitions.specs.Words.{sum_to, up_from}
use Rattle.definitions.specs.Packing.{symbol_at}
use Rattle.bit_reader.specs.declared.Layout.{Layout}

-- how many bits the symbol of cell i + 1 has
abbrev pub width_in : Layout → ℕ → ℕ
width_in l i = cond (ltb i l.leading) l.wide l.narrow

-- at most 64 cells, and symbols of at most 8 bits
pub record Narrow (l : Layout) : Type 0 where
  pub cells : l.n ≤ 64
  pub wide : l.wide ≤ 8
  pub narrow : l.narrow ≤ 8

-- the symbols of all cells
unfoldable pub taken : Layout → List ℕ → List ℕ
taken l bytes = map (λ i. symbol_at bytes (sum_to i (width_in l)) (width_in l i)) (up_from 0 l.n)
