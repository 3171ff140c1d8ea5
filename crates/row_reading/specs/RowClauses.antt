-- What the clauses of reading a row entry suppose, and what they ask of its answer.
use Rattle.std.specs.Prelude.{◌≡◌, List, ℕ, ◌<◌, length}
use Rattle.definitions.specs.Words.{EachCell}
use Rattle.definitions.specs.Answers.{Answer, given, refused, refused_at}
use Rattle.definitions.specs.Codes.{Code}
use Rattle.definitions.specs.CodeOperations.{open_code}
use Rattle.definitions.specs.Stacks.{Stack, levels}
use Rattle.definitions.specs.StackOperations.{open_stack}
use Rattle.definitions.specs.Images.{entry_at, body_of, reference_of, RowRecord}
use Rattle.definitions.specs.Demands.{Coding, DistanceDecides}
use Rattle.row_reading.specs.Records.{CheckedRow}

-- for the plan that row k's reference names, a row of n levels below q, and an output row of n cells
abbrev pub WherePlanRow : List ℕ → ℕ → List ℕ → (Code → Type 0) → Type 0
WherePlanRow x k out Q =
    CheckedRow x k → (entry_at x (reference_of x k)).kind ≡ 1
    → (p : Code) → open_code (body_of x (reference_of x k)) ≡ given p
    → length (body_of x k) ≡ p.n → length out ≡ p.n → EachCell (λ v. v < p.q) (body_of x k) → Q p

-- the same for a stack
abbrev pub WhereStackRow : List ℕ → ℕ → List ℕ → (Stack → Type 0) → Type 0
WhereStackRow x k out Q =
    CheckedRow x k → (entry_at x (reference_of x k)).kind ≡ 2
    → (S : Stack) → open_stack (body_of x (reference_of x k)) ≡ given S
    → length (body_of x k) ≡ S.n → length out ≡ S.n → EachCell (λ v. v < levels S) (body_of x k) → Q S

-- the answer is a record, its entry is the number k handed in, and for the row y the distance decides its outcome and the output row
abbrev pub RecordDecides : Coding → List ℕ → ℕ → Answer RowRecord → List ℕ → Type 0
RecordDecides K y k (given r) out = (r.entry ≡ k) × DistanceDecides K y r.outcome out
RecordDecides K y k (refused m) out = ⊥
RecordDecides K y k (refused_at m j) out = ⊥
