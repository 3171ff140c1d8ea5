-- What the functions that write lines ensure.
use Rattle.std.specs.Prelude.{List, ℕ, ◌≤◌, length}
use Rattle.row_lines.specs.declared.Lines.{Lines}
use Rattle.row_lines.specs.Writing.{Adds}

-- a line, of at most 256 bytes, is added
pub record AddsLine (l : Lines) (line : List ℕ) (k : Lines) : Type 0 where
  pub adds : Adds l line k
  pub short : length line ≤ 256
