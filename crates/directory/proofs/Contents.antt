-- What right contents show: where the entries and the bodies stand.
use mathlib.Core.Path.{◌≡◌, sym, subst, ◌∙◌}
use mathlib.Core.Bool.{true}
use mathlib.Core.List.{List, [], ◌∷◌}
use Prim.Native.Nat.{ℕ, zero, suc, ◌+◌, ◌≤◌, ◌<◌}
use native.Mathlib.Decide.{dec_lt}
use native.Mathlib.Omega.{arith}
use borrow.Author.Tests.{eq-eqb}
use lib.Dec.{T, eqb, leb→le, eqb→eq}
use lib.ListN.{length}
use Rattle.definitions.specs.Words.{at, up_from}
use Rattle.definitions.specs.CodeOperations.{between}
use Rattle.definitions.specs.Images as images
use Rattle.definitions.specs.Images.{entry_at, body_of, directory_end, entry_numbers, bodies_follow, contents_right}
use Rattle.definitions.proofs.Tests.{and_left, and_right}
use Rattle.directory.specs.Entries.{entry_as, InImage}
use Rattle.directory.specs.declared.Entry.{Entry}
use Rattle.directory.proofs.Numbers.{left, left_next}

-- what the loop keeps: what was asked of all bodies is asked of those left
pub record Going (x : List ℕ) (n place k : ℕ) : Type 0 where
  pub low : 1 ≤ k
  pub high : k ≤ n + 1
  pub left_to_ask : bodies_follow x (directory_end x) (entry_numbers x) ≡ bodies_follow x place (left k n)

-- entry k, read as e, is of a kind and stands where it is due
pub goes_on :
    (x : List ℕ) (n place k : ℕ) (e : Entry) → Going x n place k → k ≤ n → entry_as e ≡ entry_at x k → between 1 e.kind 3 ≡ true → e.offset ≡ place
    → Going x n (place + e.length) (k + 1)
goes_on x n place k e g more read known due = record {
  low = omega arith;
  high = omega arith;
  left_to_ask = g.left_to_ask ∙ subst Next (sym read) (λ a b. rw (left_next k n more, a, b)) known (eq-eqb e.offset place due);
}
  where
    Next : images.Entry → Type 0
    Next u =
        between 1 u.kind 3 ≡ true → eqb u.offset place ≡ true
        → bodies_follow x place (left k n) ≡ bodies_follow x (place + u.length) (left (k + 1) n)

module _ (x : List ℕ) where
  abbrev size : ℕ → ℕ
  size k = (entry_at x k).length

  follow_rest : (k place : ℕ) (ks : List ℕ) → T (bodies_follow x place (k ∷ ks)) → ((entry_at x k).offset ≡ place) × T (bodies_follow x (place + size k) ks)
  follow_rest k place ks h = (eqb→eq (entry_at x k).offset place (search (and_left, and_right)), search (and_left, and_right))

  -- the bodies end within the image
  follow_within : (place : ℕ) (ks : List ℕ) → T (bodies_follow x place ks) → place ≤ length x
  follow_within place [] h = let e = eqb→eq place (length x) h in omega arith
  follow_within place (k ∷ ks) h =
      let r = follow_rest k place ks h in
      let w = follow_within (place + size k) ks r.1 in
      omega arith

  abbrev Ends : ℕ → Type 0
  Ends k = (entry_at x k).offset + size k ≤ length x

  bodies_within : (i m place : ℕ) → T (bodies_follow x place (up_from i m)) → (k : ℕ) → i ≤ k → k < i + m → Ends k
  bodies_within i zero place h k a b = absurd (omega arith)
  bodies_within i (suc m) place h k a b =
      let r = follow_rest i place (up_from (suc i) m) h in
      step (dec_lt i k) r (λ (l : i < k). bodies_within (suc i) m (place + size i) r.1 k l (omega arith))
    where
      step : Dec (i < k) → ((entry_at x i).offset ≡ place) × T (bodies_follow x (place + size i) (up_from (suc i) m)) → (i < k → Ends k) → Ends k
      step (yes l) r ih = ih l
      step (no l) r ih =
          let e : i ≡ k = omega arith in
          let w = follow_within (place + size i) (up_from (suc i) m) r.1 in
          let o = r.0 in
          subst Ends e (omega arith)

  pub record Contents : Type 0 where
    pub size_high : length x ≤ 65535
    pub count_low : 1 ≤ at x 0
    pub count-high : at x 0 ≤ 32
    pub directory : directory_end x ≤ length x
    pub in_image : (k : ℕ) → 1 ≤ k → k ≤ at x 0 → InImage x k

  pub contents : contents_right x ≡ true → Contents
  unfolding contents_right
  contents e =
      let h : T (contents_right x) = subst T (sym e) tt in
      let inside : directory_end x ≤ length x = leb→le _ _ (search (and_left, and_right)) in
      record {
        size_high = leb→le (length x) 65535 (search (and_left, and_right));
        count_low = leb→le 1 (at x 0) (search (and_left, and_right));
        count-high = leb→le (at x 0) 32 (search (and_left, and_right));
        directory = inside;
        in_image = λ k low high. record {
          entry = record { low = low; within = omega arith };
          body = bodies_within 1 (at x 0) (directory_end x) (search (and_left, and_right)) k low (omega arith);
        };
      }
