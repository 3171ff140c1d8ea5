-- What the entries of an image mean, and where they and their bodies stand.
use Rattle.std.specs.Prelude.{◌≡◌, List, ℕ, ◌+◌, ◌*◌, ◌≤◌, ◌<◌, length}
use Rattle.definitions.specs.Words.{at}
use Rattle.definitions.specs.Images.{entry_at}
use Rattle.definitions.specs.Images as images
use Rattle.directory.specs.declared.Kind.{Kind}
use Rattle.directory.specs.declared.Kind.TheVariants as kind
use Rattle.directory.specs.declared.Entry.{Entry}

-- the number of a kind
abbrev pub kind_number : Kind → ℕ
kind_number kind.Plan = 1
kind_number kind.Stack = 2
kind_number kind.Row = 3

abbrev pub entry_as : Entry → images.Entry
entry_as e = record { kind = e.kind; reference = e.reference; offset = e.offset; length = e.length }

-- offset and length have 16 bits
pub record Sixteen (e : Entry) : Type 0 where
  pub kind : e.kind ≤ 255
  pub reference : e.reference ≤ 255
  pub offset : e.offset ≤ 65535
  pub length : e.length ≤ 65535

-- entry k stands in the image x
pub record InDirectory (x : List ℕ) (k : ℕ) : Type 0 where
  pub low : 1 ≤ k
  pub within : 6 * k < length x

-- and its body too
pub record InImage (x : List ℕ) (k : ℕ) : Type 0 where
  pub entry : InDirectory x k
  pub body : (entry_at x k).offset + (entry_at x k).length ≤ length x

-- the image x has n entries, and they stand in it
pub record Counted (x : List ℕ) (n : ℕ) : Type 0 where
  pub high : n ≤ 32
  pub within : 1 + 6 * n ≤ length x
  pub count : n ≡ at x 0
