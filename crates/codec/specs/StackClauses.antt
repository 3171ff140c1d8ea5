-- What the clauses of the operations on stacks suppose.
use Rattle.std.specs.Prelude.{◌≡◌, List, ℕ, ◌<◌, length}
use Rattle.definitions.specs.Words.{EachCell}
use Rattle.definitions.specs.Answers.{given}
use Rattle.definitions.specs.Stacks.{Stack, levels}
use Rattle.definitions.specs.StackCodewords.{AcceptedStack}
use Rattle.definitions.specs.StackOperations.{open_stack}

-- for the stack that the description b opens as
abbrev pub WhereStackOpens : List ℕ → (Stack → Type 0) → Type 0
WhereStackOpens b Q = (S : Stack) → open_stack b ≡ given S → Q S

-- for the stack that the description b opens as and a word of n levels below q, with an output buffer of n cells
abbrev pub WhereStackReads : List ℕ → List ℕ → List ℕ → (Stack → Type 0) → Type 0
WhereStackReads b y out Q =
    WhereStackOpens b (λ S. length y ≡ S.n → length out ≡ S.n → EachCell (λ v. v < levels S) y → Q S)

-- and where the stack is accepted
abbrev pub WhereStackAccepted : List ℕ → List ℕ → List ℕ → (Stack → Type 0) → Type 0
WhereStackAccepted b y out Q = WhereStackReads b y out (λ S. AcceptedStack S → Q S)
