-- Opening plane after plane, over plain variables.
use Rattle.std.proofs.Common.{◌≡◌, ◌∙◌, sym, ap, Bool, true, false, not, Result, Ok, Err, List, [], ◌∷◌, ◌++◌, ℕ, suc, ◌+◌, ◌*◌, ◌-◌, ◌≤◌, ◌<◌}
use Rattle.std.proofs.Common.{eqb, ltb, length, drop, arith, append-nil, lt-ltb, le-ltb}
use Rattle.std.specs.Result.{IsErr, IsErrAnd}
use mathlib.Core.Path.{refl}
use mathlib.Core.List.{append_assoc}
use Rattle.definitions.specs.Words.{at}
use Rattle.definitions.specs.Answers.{Answer, given, refused, refused_at, refuse◌when◌else◌, after}
use Rattle.definitions.specs.Codes.{Code}
use Rattle.definitions.specs.Stacks.{Stack, product}
use Rattle.definitions.specs.StackOperations.{open_plane, open_planes, stack_in_range, open_stack}
use Rattle.answers.specs.declared.Refusal.{Refusal}
use Rattle.answers.specs.Answering.{refused_as, answer_with}
use Rattle.answers.proofs.Refusals.{after_refused}
use Rattle.stack_theorems.proofs.Opened.{plane_opened}

itself : (a : Answer (List Code)) → a ≡ (after a λ ps. given ([] ++ ps))
itself (given ps) = refl
itself (refused k) = refl
itself (refused_at k j) = refl

-- a plane and those after it, after others
collected : (qs : List Code) (p : Code) (a : Answer (List Code))
    → (after (after a λ ps. given (p ∷ ps)) λ ps. given (qs ++ ps)) ≡ (after a λ ps. given ((qs ++ (p ∷ [])) ++ ps))
collected qs p (given ps) = ap given (sym (append_assoc qs (p ∷ []) ps))
collected qs p (refused k) = refl
collected qs p (refused_at k j) = refl

-- what `?` passes on
pub passed_on : {A B : Type 0} (f : A → B) (r : Result A Refusal) (x : Refusal) → IsErr r × IsErrAnd r (λ y. y ≡ x) → answer_with f r ≡ refused_as x
passed_on f (Ok a) x h = let g = h.0 in let z : ◌≡◌ {A = ℕ} 0 1 = cc in absurd (omega arith)
passed_on f (Err y) x h = ap refused_as h.1

-- one plane opens, and the others after its matrix
planes_next : (k n : ℕ) (b : List ℕ) (p : Code) → open_plane n b ≡ given p
    → open_planes (suc k) n b ≡ after (open_planes k n (drop (3 + length p.A) b)) λ ps. given (p ∷ ps)
unfolding open_planes
planes_next k n b p e =
    let o = plane_opened n b p e in
    let size : at b 1 * (n - at b 1) ≡ length p.A = ap (λ (x : Code). x.r * (x.n - x.r)) o.0 ∙ sym o.1.matrix in
    rw e (ap (λ (i : ℕ). after (open_planes k n (drop (3 + i) b)) λ ps. given (p ∷ ps)) size)

-- of m planes, those before j are opened: what is left of opening
abbrev pub Left : List ℕ → ℕ → ℕ → List Code → List ℕ → ℕ → Type 0
Left start n m before rest j = open_planes m n start ≡ after (open_planes (m - j) n rest) λ ps. given (before ++ ps)

module _ (start : List ℕ) (n m : ℕ) (before : List Code) (rest : List ℕ) (j : ℕ) (left : Left start n m before rest j) where
  pub left_next : (p : Code) → j < m → open_plane n rest ≡ given p → Left start n m (before ++ p ∷ []) (drop (3 + length p.A) rest) (j + 1)
  left_next p h e =
      let d : m - j ≡ suc (m - (j + 1)) = omega arith in
      left ∙ rw (d, planes_next (m - (j + 1)) n rest p e) (collected before p (open_planes (m - (j + 1)) n (drop (3 + length p.A) rest)))

  pub left_refused : (x : Refusal) → j < m → open_plane n rest ≡ refused_as x → open_planes m n start ≡ refused_as x
  unfolding open_planes
  left_refused x h e =
      let d : m - j ≡ suc (m - (j + 1)) = omega arith in
      left
      ∙ ap (λ (k : ℕ). after (open_planes k n rest) λ ps. given (before ++ ps)) d
      ∙ rw e (ap (λ (a : Answer (List Code)). after a λ ps. given (before ++ ps)) (after_refused x _) ∙ after_refused x _)

  pub left_end : m ≤ j → open_planes m n start ≡ (refuse 3 when not (eqb (length rest) 0) else given before)
  unfolding open_planes
  left_end h =
      let z : m - j ≡ 0 = omega arith in
      left ∙ rw z (last (eqb (length rest) 0))
    where
      last : (t : Bool) → (after (refuse 3 when not t else given []) λ ps. given (before ++ ps)) ≡ (refuse 3 when not t else given before)
      last true = ap given (append-nil before)
      last false = refl

-- the stack of n cells with the planes that were opened, or 7
abbrev pub within_levels : ℕ → Answer (List Code) → Answer Stack
within_levels n a = after a λ ps. refuse 7 when ltb 64 (product ps) else given (record { n = n; planes = ps })

pub opens : (n m : ℕ) (b : List ℕ) → 2 ≤ length b → n ≡ at b 0 → m ≡ at b 1 → stack_in_range n m ≡ true
    → open_stack b ≡ within_levels n (open_planes m n (drop 2 b))
unfolding open_stack
opens n m b h e f g = rw (le-ltb (length b) 2 h, ← e, ← f, g)

-- the stack of the bytes b, once its first two are tested
module _ (b : List ℕ) (n m : ℕ) (opened : open_stack b ≡ within_levels n (open_planes m n (drop 2 b)))
    (before : List Code) (rest : List ℕ) (j : ℕ) (left : Left (drop 2 b) n m before rest j) where
  pub stack_refused : (x : Refusal) → j < m → refused_as x ≡ open_plane n rest → open_stack b ≡ refused_as x
  stack_refused x h e = opened ∙ rw (left_refused (drop 2 b) n m before rest j left x h (sym e)) (after_refused x _)

  module _ (all : m ≤ j) where
    pub stack_longer : eqb (length rest) 0 ≡ false → refused 3 ≡ open_stack b
    stack_longer h = sym (opened ∙ rw (left_end (drop 2 b) n m before rest j left all, h) refl)

    module _ (none : eqb (length rest) 0 ≡ true) where
      pub stack_levels : 64 < product before → refused 7 ≡ open_stack b
      stack_levels h = sym (opened ∙ rw (left_end (drop 2 b) n m before rest j left all, none, lt-ltb 64 (product before) h) refl)

      pub stack_given : product before ≤ 64 → given (record { n = n; planes = before }) ≡ open_stack b
      stack_given h = sym (opened ∙ rw (left_end (drop 2 b) n m before rest j left all, none, le-ltb 64 (product before) h) refl)
