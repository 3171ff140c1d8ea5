-- The check of an image, and what an image that passes it has.
use mathlib.Core.Path.{◌≡◌, refl, sym, subst}
use mathlib.Core.Bool.{true, false}
use mathlib.Core.List.{List}
use Prim.Native.Nat.{ℕ, zero, suc, ◌+◌, ◌-◌, ◌≤◌, ◌<◌}
use native.Mathlib.Decide.{dec_lt}
use native.Mathlib.Omega.{arith}
use lib.Dec.{T, eqb, leb, leb→le, eqb→eq}
use Rattle.definitions.specs.Words.{at, up_from}
use Rattle.definitions.specs.Answers.{Answer, given, refused, refused_at}
use Rattle.definitions.specs.CodeOperations.{between, test_code}
use Rattle.definitions.specs.StackOperations.{test_stack}
use Rattle.definitions.specs.Images.{entry_at, entry_numbers, body_of, contents_right, passes_test, body_passes, reference_right}
use Rattle.definitions.specs.Images.{entry_right, entries_right, check_image, reference_of, is_row}
use Rattle.definitions.proofs.Tests.{and_left, and_right}
use Rattle.code_theorems.proofs.Refusals.{passed, is_true}
use Rattle.directory.specs.Entries.{InImage}
use Rattle.directory.proofs.Contents.{Contents, contents}
use Rattle.image.proofs.EntryLaws.{right_for}

module _ (x : List ℕ) where
  pub wrong_contents : contents_right x ≡ false → check_image x ≡ refused 15
  unfolding check_image
  wrong_contents e = rw e

  pub wrong_body : contents_right x ≡ true → entries_right x (entry_numbers x) ≡ false → check_image x ≡ refused 16
  unfolding check_image
  wrong_body e h = rw (e, h)

  pub all_passed : contents_right x ≡ true → entries_right x (entry_numbers x) ≡ true → check_image x ≡ given tt
  unfolding check_image
  all_passed e h = rw (e, h)

  entry_of : (i m : ℕ) → T (entries_right x (up_from i m)) → (k : ℕ) → i ≤ k → k < i + m → T (entry_right x k)
  entry_of i zero h k a b = absurd (omega arith)
  entry_of i (suc m) h k a b =
      step (dec_lt i k) (λ (l : i < k). entry_of (suc i) m (and_right (entry_right x i) (entries_right x (up_from (suc i) m)) h) k l (omega arith))
    where
      step : Dec (i < k) → (i < k → T (entry_right x k)) → T (entry_right x k)
      step (yes l) ih = ih l
      step (no l) ih =
          let e : i ≡ k = omega arith in
          subst (λ (j : ℕ). T (entry_right x j)) e (and_left (entry_right x i) (entries_right x (up_from (suc i) m)) h)

  -- a plan or a stack among the entries, with a body that passes its test
  pub data Named (r : ℕ) : Type 0 where
    plan : (entry_at x r).kind ≡ 1 → test_code (body_of x r) ≡ given tt → Named r
    stack : (entry_at x r).kind ≡ 2 → test_stack (body_of x r) ≡ given tt → Named r

  test_passed : (a : Answer (Unit {0})) → T (passes_test a) → a ≡ given tt
  test_passed (given u) h = refl
  test_passed (refused k) h = absurd h
  test_passed (refused_at k j) h = absurd h

  -- what an image that passes its check has of each row
  pub record Row (k : ℕ) : Type 0 where
    pub low : 1 ≤ k
    pub high : k ≤ 32
    pub in_image : InImage x k
    pub reference_in_image : InImage x (reference_of x k)
    pub named : Named (reference_of x k)

  named_by : (r : ℕ) → T (between 1 (entry_at x r).kind 2) → T (entry_right x r) → Named r
  named_by r b h = step (dec_lt (entry_at x r).kind 2)
    where
      low : 1 ≤ (entry_at x r).kind
      low = leb→le 1 (entry_at x r).kind (and_left (leb 1 (entry_at x r).kind) (leb (entry_at x r).kind 2) b)

      high : (entry_at x r).kind ≤ 2
      high = leb→le (entry_at x r).kind 2 (and_right (leb 1 (entry_at x r).kind) (leb (entry_at x r).kind 2) b)

      step : Dec ((entry_at x r).kind < 2) → Named r
      step (yes l) =
          let e : (entry_at x r).kind ≡ 1 = omega (arith, low) in
          let g : T (body_passes test_code x r) = subst (λ (u : ℕ). T (right_for x r u)) e h in
          plan e (test_passed (test_code (body_of x r)) (and_right (eqb (entry_at x r).reference 0) (passes_test (test_code (body_of x r))) g))
      step (no l) =
          let e : (entry_at x r).kind ≡ 2 = omega (arith, high) in
          let g : T (body_passes test_stack x r) = subst (λ (u : ℕ). T (right_for x r u)) e h in
          stack e (test_passed (test_stack (body_of x r)) (and_right (eqb (entry_at x r).reference 0) (passes_test (test_stack (body_of x r))) g))

  module _ (checked : check_image x ≡ given tt) where
    tests : T (contents_right x) × T (entries_right x (entry_numbers x))
    unfolding check_image
    tests =
        let (a, e) = passed 15 (contents_right x) _ tt checked in
        let (b, _) = passed 16 (entries_right x (entry_numbers x)) _ tt e in
        (a, b)

    pub checked_contents : Contents x
    checked_contents = contents x (is_true (contents_right x) tests.0)

    pub row-entry : (k : ℕ) → 1 ≤ k → k ≤ at x 0 → (entry_at x k).kind ≡ 3 → Row k
    row-entry k low high e =
        let d = checked_contents in
        let right : T (entry_right x k) = entry_of 1 (at x 0) tests.1 k low (omega arith) in
        let r = reference_of x k in
        let named : T (reference_right x k) = subst (λ (u : ℕ). T (right_for x k u)) e right in
        let b : T (between 1 r (k - 1)) = and_left (between 1 r (k - 1)) (between 1 (entry_at x r).kind 2) named in
        let from : 1 ≤ r = leb→le 1 r (and_left (leb 1 r) (leb r (k - 1)) b) in
        let to : r ≤ k - 1 = leb→le r (k - 1) (and_right (leb 1 r) (leb r (k - 1)) b) in
        let inside : r ≤ at x 0 = omega arith in
        record {
          low = low;
          high = omega (arith, d.count-high);
          in_image = d.in_image k low high;
          reference_in_image = d.in_image r from inside;
          named =
              named_by r (and_right (between 1 r (k - 1)) (between 1 (entry_at x r).kind 2) named)
              (entry_of 1 (at x 0) tests.1 r from (omega arith));
        }

    -- the same from the test of a row's number
    pub row_of : (k : ℕ) → is_row x k ≡ true → Row k
    row_of k e =
        let h : T (is_row x k) = subst T (sym e) tt in
        row-entry k (leb→le 1 k (search (and_left, and_right))) (leb→le k (at x 0) (search (and_left, and_right)))
        (eqb→eq (entry_at x k).kind 3 (search (and_left, and_right)))
