-- From what holds of the code or stack that a description opened as to what is promised of the description's bytes.
use Rattle.std.proofs.Common.{◌≡◌, List, ℕ, subst}
use Rattle.definitions.specs.Answers.{Answer, given}
use Rattle.definitions.specs.Codes.{Code}
use Rattle.definitions.specs.Stacks.{Stack, levels}
use Rattle.definitions.specs.CodeOperations.{open_code}
use Rattle.definitions.specs.StackOperations.{open_stack}
use Rattle.codec.specs.Shared.{WhereReads}
use Rattle.codec.specs.CodeClauses.{WhereCodeReads}
use Rattle.codec.specs.StackClauses.{WhereStackReads}

module _ {O : Type 0} (opening : Answer O) (x : O) (e : given x ≡ opening) where
  pub where_opens : (Q : O → Type 0) → Q x → (y : O) → opening ≡ given y → Q y
  where_opens Q h y f = subst Q (let s : x ≡ y = cc in s) h

module _ (b y out : List ℕ) where
  pub code_reads : (x : Code) → given x ≡ open_code b → (Q : Code → Type 0) → WhereReads x.n x.q y out (Q x) → WhereCodeReads b y out Q
  code_reads x e Q = where_opens (open_code b) x e (λ p. WhereReads p.n p.q y out (Q p))

  pub stack_reads : (x : Stack) → given x ≡ open_stack b → (Q : Stack → Type 0) → WhereReads x.n (levels x) y out (Q x) → WhereStackReads b y out Q
  stack_reads x e Q = where_opens (open_stack b) x e (λ S. WhereReads S.n (levels S) y out (Q S))
