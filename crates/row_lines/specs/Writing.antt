-- Writing text into a buffer.
use Rattle.std.specs.Prelude.{◌≡◌, List, ◌++◌, ℕ, ◌+◌, ◌≤◌, ◌<◌, length, take, drop}
use Rattle.definitions.specs.Words.{EachCell}
use Rattle.definitions.specs.Answers.{Answer, given, refused, refused_at}
use Rattle.row_lines.specs.declared.Lines.{Lines}

-- from a place on, the text t replaces as many bytes of out; after holds the result, and next is the place behind the text
pub record Puts (out : List ℕ) (place : ℕ) (t : List ℕ) (next : ℕ) (after : List ℕ) : Type 0 where
  pub behind : next ≡ place + length t
  pub text : after ≡ take place out ++ t ++ drop (place + length t) out

-- the buffer has n bytes left
abbrev pub Room : Lines → ℕ → Type 0
Room l n = l.place + n ≤ length l.out.now

-- k has what l has, in the same buffer, and behind it the text t
pub record Adds (l : Lines) (t : List ℕ) (k : Lines) : Type 0 where
  pub same : k.out.ghost_name ≡ l.out.ghost_name
  pub long : length k.out.now ≡ length l.out.now
  pub room : Room l (length t)
  pub puts : Puts l.out.now l.place t k.place k.out.now

-- a count and its levels have at most two digits, and the levels fill at most 64 cells
abbrev pub Printable : Answer ℕ → List ℕ → Type 0
Printable (given count) levels = (count < 100) × (length levels ≤ 64) × EachCell (λ v. v < 100) levels
Printable (refused k) levels = Unit {0}
Printable (refused_at k j) levels = Unit {0}
