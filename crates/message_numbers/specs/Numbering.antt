-- What the clauses of both operations suppose.
use Rattle.std.specs.Prelude.{◌≡◌, List, ℕ, ◌^◌, ◌≤◌, ◌<◌, length}
use Rattle.definitions.specs.Answers.{given}
use Rattle.definitions.specs.Codes.{Code}
use Rattle.definitions.specs.Messages.{Message}
use Rattle.definitions.specs.CodeOperations.{open_code}
use Rattle.definitions.specs.MessageNumbers.{radix_product}

-- for a code that opens and whose product is at most 2^63, a number below the product, and an output buffer of n symbols
abbrev pub WhereNumber : List ℕ → ℕ → List ℕ → (Code → Type 0) → Type 0
WhereNumber b x out Q = (p : Code) → open_code b ≡ given p → radix_product p ≤ 2 ^ 63 → x < radix_product p → length out ≡ p.n → Q p

-- and for a message that can be written
abbrev pub WhereMessage : List ℕ → List ℕ → (Code → Type 0) → Type 0
WhereMessage b s Q = (p : Code) → open_code b ≡ given p → radix_product p ≤ 2 ^ 63 → Message p s → Q p
