-- Syndromes and codewords of a code.
use Rattle.std.specs.Prelude.{◌≡◌, Bool, ◌&&◌, List, map, ℕ, ◌+◌, ◌*◌, ◌/◌, ◌%◌, ◌<◌, eqb, length, drop}
use Rattle.definitions.specs.Words.{at, sum_to, up_from, all_below, all_zero, EachCell}
use Rattle.definitions.specs.Codes.{Code, data_cells}

-- document 01: residue k + 1
unfoldable pub syndrome_entry : Code → List ℕ → ℕ → ℕ
syndrome_entry p x k = (sum_to (data_cells p) (λ j. at p.A (k * data_cells p + j) * at x j) + at x (data_cells p + k)) % p.M

-- document 01: all r residues
unfoldable pub syndrome : Code → List ℕ → List ℕ
syndrome p x = map (syndrome_entry p x) (up_from 0 p.r)

-- check cells of a codeword are below M times floor(q / M)
abbrev pub ceiling : Code → ℕ
ceiling p = p.M * (p.q / p.M)

pub record Codeword (p : Code) (c : List ℕ) : Type 0 where
  pub long : length c ≡ p.n
  pub levels : EachCell (λ v. v < p.q) c
  pub checks : EachCell (λ v. v < ceiling p) (drop (data_cells p) c)
  pub zero : (k : ℕ) → k < p.r → syndrome_entry p c k ≡ 0

-- the same as a test
unfoldable pub is_codeword : Code → List ℕ → Bool
is_codeword p c = eqb (length c) p.n && all_below p.q c && all_below (ceiling p) (drop (data_cells p) c) && all_zero (syndrome p c)
