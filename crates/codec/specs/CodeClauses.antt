-- What the clauses of the operations on codes suppose.
use Rattle.std.specs.Prelude.{◌≡◌, List, ℕ, ◌<◌, length}
use Rattle.definitions.specs.Words.{EachCell}
use Rattle.definitions.specs.Answers.{given}
use Rattle.definitions.specs.Codes.{Code}
use Rattle.definitions.specs.Codewords.{Codeword}
use Rattle.definitions.specs.Acceptance.{Accepted}
use Rattle.definitions.specs.Messages.{Message}
use Rattle.definitions.specs.CodeOperations.{open_code}

-- for the code that the description b opens as
abbrev pub WhereCodeOpens : List ℕ → (Code → Type 0) → Type 0
WhereCodeOpens b Q = (p : Code) → open_code b ≡ given p → Q p

-- and for a message that can be written, with an output buffer of n cells
abbrev pub WhereWritable : List ℕ → List ℕ → List ℕ → (Code → Type 0) → Type 0
WhereWritable b s out Q = WhereCodeOpens b (λ p. Message p s → length out ≡ p.n → Q p)

-- and for a codeword, with an output buffer of n symbols
abbrev pub WhereCodeword : List ℕ → List ℕ → List ℕ → (Code → Type 0) → Type 0
WhereCodeword b c out Q = WhereCodeOpens b (λ p. Codeword p c → length out ≡ p.n → Q p)

-- and for a word of n levels below q, with an output buffer of n cells
abbrev pub WhereCodeReads : List ℕ → List ℕ → List ℕ → (Code → Type 0) → Type 0
WhereCodeReads b y out Q =
    WhereCodeOpens b (λ p. length y ≡ p.n → length out ≡ p.n → EachCell (λ v. v < p.q) y → Q p)

-- and for an accepted code
abbrev pub WhereCodeAccepted : List ℕ → List ℕ → List ℕ → (Code → Type 0) → Type 0
WhereCodeAccepted b y out Q = WhereCodeReads b y out (λ p. Accepted p → Q p)
