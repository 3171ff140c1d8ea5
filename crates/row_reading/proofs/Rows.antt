-- Which entries are rows, and what reading one answers.
use mathlib.Core.Path.{◌≡◌, refl, sym, ap, subst, ◌∙◌}
use mathlib.Core.Bool.{Bool, true, false, not}
use mathlib.Core.List.{List}
use Prim.Native.Nat.{ℕ}
use native.Mathlib.Omega.{arith}
use borrow.Author.Tests.{eq-eqb, ne_eqb}
use Rattle.definitions.specs.Answers.{Answer, given, refused, refused_at, Result, result, refuse◌when◌else◌, after}
use Rattle.definitions.specs.CodeOperations.{between, decode_code}
use Rattle.definitions.specs.StackOperations.{decode_stack}
use Rattle.definitions.specs.Images as images
use Rattle.definitions.specs.Images.{entry_at, body_of, reference_of, RowRecord, is_row, check_image, decode_row, recorded, read_row}
use Rattle.answers.specs.Answering.{refused_as, leaves}
use Rattle.answers.specs.declared.Refusal.{Refusal}
use Rattle.answers.proofs.Refusals.{after_refused, result_refused}
use Rattle.directory.specs.Entries.{entry_as}
use Rattle.directory.specs.declared.Entry.{Entry}
use Rattle.row_reading.specs.Opening.{open_row}
use Rattle.image.proofs.Checked.{Named, plan, stack, row_of}

-- what follows the opening of a row follows the check of the image and of the number
after_open :
    {B : Type 0} (x : List ℕ) (k : ℕ) (f : List ℕ × ℕ → Answer B)
    → after (open_row x k) f ≡ after (check_image x) λ u. refuse 2 when not (is_row x k) else f (x, k)
after_open {B} x k f = step (check_image x) (is_row x k)
  where
    step :
        (a : Answer (Unit {0})) (t : Bool)
        → after (after a λ u. refuse 2 when not t else given (x, k)) f ≡ after a λ u. refuse 2 when not t else f (x, k)
    step (given u) true = refl
    step (given u) false = refl
    step (refused m) t = refl
    step (refused_at m j) t = refl

module _ (x : List ℕ) (k : ℕ) where
  -- what the reference names decides how a row is decoded
  module _ (out : List ℕ) where
    pub by_plan : (entry_at x (reference_of x k)).kind ≡ 1 → decode_row x k out ≡ decode_code (body_of x (reference_of x k)) (body_of x k) out
    unfolding decode_row
    by_plan e = let n = eq-eqb (entry_at x (reference_of x k)).kind 1 e in rw n

    pub by_stack : (entry_at x (reference_of x k)).kind ≡ 2 → decode_row x k out ≡ decode_stack (body_of x (reference_of x k)) (body_of x k) out
    unfolding decode_row
    by_stack e = let n = ne_eqb (entry_at x (reference_of x k)).kind 1 (λ i. omega arith) in rw n

    -- what follows the opening, in one place
    read_opened : result (after (open_row x k) (λ row. given (recorded row.1 (decode_row row.0 row.1 out)))) out ≡ read_row x k out
    unfolding read_row
    read_opened = ap (λ (a : Answer (RowRecord × List ℕ)). result a out) (after_open x k _)

    pub not_opened : (y : Refusal) → refused_as y ≡ open_row x k → leaves (refused_as y) out ≡ read_row x k out
    not_opened y e = let r = read_opened in rw (← r, ← e, after_refused y, result_refused y out)

    pub row_read :
        check_image x ≡ given tt → is_row x k ≡ true → (r : RowRecord) (after : List ℕ)
        → (r, after) ≡ recorded k (decode_row x k out) → leaves (given r) after ≡ read_row x k out
    unfolding read_row
    row_read checked e r after h = rw (checked, e) (ap (λ (u : RowRecord × List ℕ). leaves (given u.0) u.1) h)

    -- the same, of the row that was opened
    pub read_of :
        (bytes : List ℕ) (n : ℕ) → given (bytes, n) ≡ open_row x k → (r : RowRecord) (after : List ℕ)
        → (r, after) ≡ recorded n (decode_row bytes n out) → leaves (given r) after ≡ read_row x k out
    read_of bytes n e r after h =
        let o = read_opened in
        rw (← o, ← e) (ap (λ (u : RowRecord × List ℕ). leaves (given u.0) u.1) h)

-- a row of an image that passed its check, whose reference is r
module _ (x : List ℕ) (k r : ℕ) (is : r ≡ reference_of x k) (e : Entry) (read : entry_as e ≡ entry_at x r) where
  kind_is : (entry_at x (reference_of x k)).kind ≡ e.kind
  kind_is = ap (λ (i : ℕ). (entry_at x i).kind) (sym is) ∙ ap (λ (u : images.Entry). u.kind) (sym read)

  -- what decoding the two bodies leaves
  module _ (body word out : List ℕ) (b : body ≡ body_of x r) (w : word ≡ body_of x k) {left : Result ℕ} where
    pub plan_decoded : e.kind ≡ 1 → left ≡ decode_code body word out → left ≡ decode_row x k out
    plan_decoded h d = d ∙ rw (b, w, is) (sym (by_plan x k out (kind_is ∙ h)))

    pub stack_decoded : e.kind ≡ 2 → left ≡ decode_stack body word out → left ≡ decode_row x k out
    stack_decoded h d = d ∙ rw (b, w, is) (sym (by_stack x k out (kind_is ∙ h)))

  -- its kind is a plan's or a stack's
  pub never : (checked : check_image x ≡ given tt) → is_row x k ≡ true → (e.kind ≡ 1 → ⊥) → (e.kind ≡ 2 → ⊥) → ⊥
  never checked row no_plan no_stack = step (row_of x checked k row).named
    where
      step : Named x (reference_of x k) → ⊥
      step (plan h t) = no_plan (sym kind_is ∙ h)
      step (stack h t) = no_stack (sym kind_is ∙ h)

  pub none : (checked : check_image x ≡ given tt) → is_row x k ≡ true → between 1 e.kind 3 ≡ false → ⊥
  none checked row outside = never checked row (λ h. other (subst Outside h outside)) (λ h. other (subst Outside h outside))
    where
      Outside : ℕ → Type 0
      Outside n = between 1 n 3 ≡ false

      other : true ≡ false → ⊥
      other h = let z : ◌≡◌ {A = ℕ} 0 1 = cc in absurd (omega arith)
