-- The first byte of a description that passes its test: its number of cells.
use mathlib.Core.Path.{◌≡◌, ap}
use mathlib.Core.List.{List}
use Prim.Native.Nat.{ℕ, ◌≤◌}
use native.Mathlib.Omega.{arith}
use lib.Dec.{ltb}
use lib.ListN.{length}
use borrow.Author.Tests.{ltb-false}
use Rattle.definitions.specs.Words.{at}
use Rattle.definitions.specs.Answers.{given}
use Rattle.definitions.specs.Codes.{Code}
use Rattle.definitions.specs.CodeOperations.{open_code, test_code}
use Rattle.definitions.specs.StackOperations.{open_stack, test_stack}
use Rattle.definitions.specs.Images.{body_of, reference_of}
use Rattle.code_theorems.proofs.Refusals.{not_refused, after-given}
use Rattle.code_theorems.proofs.Opened.{opened}
use Rattle.stack_theorems.proofs.Opened.{stack_opened}
use Rattle.image.proofs.Checked.{Named, plan, stack, row_of}
use Rattle.row_reading.specs.Records.{CheckedRow}

-- the first byte of a description is its n
pub record First (b : List ℕ) : Type 0 where
  pub there : 1 ≤ length b
  pub high : at b 0 ≤ 64

code-first : (b : List ℕ) → test_code b ≡ given tt → First b
unfolding test_code
code-first b e =
    let (p, opens, _) = after-given (open_code b) _ tt e in
    let (s, h) = opened b p opens in
    let n : at b 0 ≡ p.n = ap (λ (u : Code). u.n) s in
    record { there = omega (arith, h.size); high = omega (arith, h.range.n-high) }

stack_first : (b : List ℕ) → test_stack b ≡ given tt → First b
unfolding open_stack test_stack
stack_first b e =
    let (S, opens, _) = after-given (open_stack b) _ tt e in
    let h = stack_opened b S opens in
    let (l, _) = not_refused 1 (ltb (length b) 2) _ S opens in
    record { there = omega (arith, ltb-false (length b) 2 l); high = omega (arith, h.n_is, h.n-high) }

module _ (x : List ℕ) (k : ℕ) (c : CheckedRow x k) where
  pub row_first : First (body_of x (reference_of x k))
  row_first = step (row_of x c.checked k c.row).named
    where
      step : Named x (reference_of x k) → First (body_of x (reference_of x k))
      step (plan e t) = code-first (body_of x (reference_of x k)) t
      step (stack e t) = stack_first (body_of x (reference_of x k)) t
