-- From the equation of reading a row entry to demand 3 on its record and on what the output row holds at exit.
use mathlib.Core.Path.{◌≡◌, refl, sym, subst}
use mathlib.Core.List.{List}
use Prim.Native.Nat.{ℕ}
use native.Mathlib.Omega.{arith}
use Rattle.definitions.specs.Answers.{Answer, given, Result}
use Rattle.definitions.specs.Codes.{Code}
use Rattle.definitions.specs.Acceptance.{Accepted}
use Rattle.definitions.specs.CodeOperations.{open_code}
use Rattle.definitions.specs.Images.{entry_at, body_of, reference_of, RowRecord, decode_row, read_row}
use Rattle.definitions.specs.Stacks.{Stack}
use Rattle.definitions.specs.StackCodewords.{AcceptedStack}
use Rattle.definitions.specs.StackOperations.{open_stack}
use Rattle.definitions.specs.Demands.{Coding, of_code, of_stack, DistanceDecides}
use Rattle.answers.specs.Answering.{leaves}
use Rattle.answers.proofs.Refusals.{carried}
use Rattle.code_theorems.proofs.Demands as code
use Rattle.stack_theorems.proofs.Demands as stacks
use Rattle.image.proofs.Checked.{Named, plan, stack, row_of}
use Rattle.row_reading.specs.Records.{CheckedRow}
use Rattle.row_reading.specs.RowClauses.{WherePlanRow, WhereStackRow, RecordDecides}
use Rattle.row_reading.proofs.Rows.{by_plan, by_stack, row_read}

module _ (x : List ℕ) (k : ℕ) (lent : List ℕ) where
  -- what the distance decides of decoding it decides of the record
  record_decides :
      (K : Coding) → CheckedRow x k → DistanceDecides K (body_of x k) (decode_row x k lent).answer (decode_row x k lent).out
      → RecordDecides K (body_of x k) k (read_row x k lent).answer (read_row x k lent).out
  record_decides K c d =
      subst (λ (u : Result RowRecord). RecordDecides K (body_of x k) k u.answer u.out)
      (row_read x k lent c.checked c.row (record { entry = k; outcome = (decode_row x k lent).answer }) (decode_row x k lent).out refl)
      (refl, d)

  -- an accepted plan, since the image passed its check
  plan_accepted : CheckedRow x k → (entry_at x (reference_of x k)).kind ≡ 1 → (p : Code) → open_code (body_of x (reference_of x k)) ≡ given p → Accepted p
  plan_accepted c e p opens = step (row_of x c.checked k c.row).named
    where
      step : Named x (reference_of x k) → Accepted p
      step (plan a t) = (code.test_demand (body_of x (reference_of x k)) p opens).fit.0 t
      step (stack a t) = absurd (omega arith)

  -- and an accepted stack
  stack_accepted : CheckedRow x k → (entry_at x (reference_of x k)).kind ≡ 2 → (S : Stack)
      → open_stack (body_of x (reference_of x k)) ≡ given S → AcceptedStack S
  stack_accepted c e S opens = step (row_of x c.checked k c.row).named
    where
      step : Named x (reference_of x k) → AcceptedStack S
      step (plan a t) = absurd (omega arith)
      step (stack a t) = (stacks.test_demand (body_of x (reference_of x k)) S opens).fit.0 t

  module _ {a : Answer RowRecord} {out : List ℕ} where
    pub read_clauses :
        leaves a out ≡ read_row x k lent
        → (leaves a out ≡ read_row x k lent)
        × (WherePlanRow x k lent (λ p. RecordDecides (of_code p) (body_of x k) k a out)
        × WhereStackRow x k lent (λ S. RecordDecides (of_stack S) (body_of x k) k a out))
    read_clauses e = (
      e,
      (
        (λ c kind p opens ly lo h.
            carried (RecordDecides (of_code p) (body_of x k) k) (read_row x k lent) e
            (record_decides (of_code p) c
            (subst (λ (r : Result ℕ). DistanceDecides (of_code p) (body_of x k) r.answer r.out) (sym (by_plan x k lent kind))
            (code.decode_demand (body_of x (reference_of x k)) p opens (body_of x k) lent ly lo h (plan_accepted c kind p opens))))),
        (λ c kind S opens ly lo h.
            carried (RecordDecides (of_stack S) (body_of x k) k) (read_row x k lent) e
            (record_decides (of_stack S) c
            (subst (λ (r : Result ℕ). DistanceDecides (of_stack S) (body_of x k) r.answer r.out) (sym (by_stack x k lent kind))
            (stacks.decode_demand (body_of x (reference_of x k)) S opens (body_of x k) lent ly lo h (stack_accepted c kind S opens))))),
      ),
    )
