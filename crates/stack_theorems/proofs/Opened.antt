-- What opening a stack shows of its planes; and the theorem of its test.
use mathlib.Core.Path.{◌≡◌, refl, ap, subst}
use mathlib.Core.Bool.{Bool, ◌&&◌}
use mathlib.Core.Logic.{◌↔◌}
use mathlib.Core.List.{List, [], ◌∷◌}
use Prim.Native.Nat.{ℕ, zero, suc, ◌+◌, ◌*◌, ◌-◌, ◌≤◌, ◌<◌}
use native.Mathlib.Nat.{mul-pos}
use native.Mathlib.Omega.{arith}
use lib.Dec.{T, eqb, leb, ltb, leb→le, ltb→lt}
use lib.ListN.{length, drop, length-drop}
use lib.Seq.{length-take-le}
use borrow.Author.Tests.{ltb-false}
use Rattle.definitions.specs.Words.{at, all_below, EachCell}
use Rattle.definitions.specs.Answers.{given, after}
use Rattle.definitions.specs.Codes.{Code, data_cells}
use Rattle.definitions.specs.Patterns.{pattern_count}
use Rattle.definitions.specs.Acceptance.{Accepted, accepted}
use Rattle.definitions.specs.CodeOperations.{between}
use Rattle.definitions.specs.Stacks.{Stack, product, levels, EachPlane, all_planes}
use Rattle.definitions.specs.StackCodewords.{AcceptedStack, accepted_stack}
use Rattle.definitions.specs.StackOperations.{plane_of, open_plane, open_planes, open_stack, test_stack}
use Rattle.definitions.specs.Demands.{Tested}
use Rattle.definitions.proofs.Tests.{and_left, and_right, and_both, below_each}
use Rattle.code_theorems.proofs.Acceptance.{acceptance}
use Rattle.code_theorems.proofs.Refusals.{not_refused, passed, after-given}
use Rattle.code_theorems.proofs.Demands.{tested_by}

-- a plane of a stack of n cells
pub record IsPlane (n : ℕ) (p : Code) : Type 0 where
  pub long : p.n ≡ n
  pub whole : p.q ≡ p.M
  pub top : p.l + 1 ≡ p.M
  pub M-low : 2 ≤ p.M
  pub M-high : p.M ≤ 64
  pub r-high : p.r ≤ 12
  pub r-below : p.r < p.n
  pub t-high : p.t ≤ 3
  pub t-below : p.t ≤ p.n
  pub matrix : length p.A ≡ p.r * data_cells p
  pub entries : EachCell (λ v. v < p.M) p.A
  pub few : pattern_count p ≤ 4096

abbrev pub ArePlanes : ℕ → List Code → Type 0
ArePlanes n [] = Unit {0}
ArePlanes n (p ∷ ps) = IsPlane n p × ArePlanes n ps

pub plane_pos : (n : ℕ) (p : Code) → IsPlane n p → 0 < p.M
plane_pos n p h = omega (arith, h.M-low)

pub product_pos : (n : ℕ) (ps : List Code) → ArePlanes n ps → 0 < product ps
product_pos n [] h = omega arith
product_pos n (p ∷ ps) h = mul-pos (plane_pos n p h.0) (product_pos n ps h.1)

-- the plane that opens has the bytes' fields, and they are in range
pub plane_opened : (n : ℕ) (b : List ℕ) (p : Code) → open_plane n b ≡ given p → (plane_of n b ≡ p) × IsPlane n p
unfolding open_plane
plane_opened n b p e =
    let t = between 2 (at b 0) 64 && (leb (at b 1) 12 && ltb (at b 1) n) && (leb (at b 2) 3 && leb (at b 2) n) in
    let (a₁, e₁) = not_refused 1 (ltb (length b) 3) _ p e in
    let (h, e₂) = passed 2 t _ p e₁ in
    let (a₃, e₃) = not_refused 3 (ltb (length b) (3 + at b 1 * (n - at b 1))) _ p e₂ in
    let (a₄, e₄) = passed 4 (all_below (at b 0) (plane_of n b).A) _ p e₃ in
    let (a₅, e₅) = not_refused 5 (ltb 4096 (pattern_count (plane_of n b))) _ p e₄ in
    let low : 2 ≤ at b 0 = leb→le 2 (at b 0) (search (and_left, and_right)) in
    let bytes : 3 + at b 1 * (n - at b 1) ≤ length b = ltb-false (length b) (3 + at b 1 * (n - at b 1)) a₃ in
    let s : plane_of n b ≡ p = cc in (
      s,
      subst (IsPlane n) s (record {
        long = refl;
        whole = refl;
        top = omega arith;
        M-low = low;
        M-high = leb→le (at b 0) 64 (search (and_left, and_right));
        r-high = leb→le (at b 1) 12 (search (and_left, and_right));
        r-below = ltb→lt (at b 1) n (search (and_left, and_right));
        t-high = leb→le (at b 2) 3 (search (and_left, and_right));
        t-below = leb→le (at b 2) n (search (and_left, and_right));
        matrix = length-take-le (at b 1 * (n - at b 1)) (drop 3 b) (omega (arith, length-drop 3 b));
        entries = below_each (at b 0) (plane_of n b).A a₄;
        few = ltb-false 4096 (pattern_count (plane_of n b)) a₅;
      }),
    )

planes_opened : (m n : ℕ) (b : List ℕ) (ps : List Code) → open_planes m n b ≡ given ps → ArePlanes n ps × (length ps ≡ m)
unfolding open_planes
planes_opened zero n b ps e =
    let (a, f) = passed 3 (eqb (length b) 0) (given []) ps e in
    let s : [] ≡ ps = cc in
    subst (λ (x : List Code). ArePlanes n x × (length x ≡ 0)) s (tt, refl)
planes_opened (suc m) n b ps e =
    let rest = drop (3 + at b 1 * (n - at b 1)) b in
    let (p, a, f) = after-given (open_plane n b) (λ p. after (open_planes m n rest) λ xs. given (p ∷ xs)) ps e in
    let (xs, g, i) = after-given (open_planes m n rest) (λ xs. given (p ∷ xs)) ps f in
    let s : p ∷ xs ≡ ps = cc in
    let (h, k) = planes_opened m n rest xs g in
    subst (λ (x : List Code). ArePlanes n x × (length x ≡ suc m)) s (((plane_opened n b p a).1, h), ap suc k)

-- what opening the description b as S shows
pub record StackRanges (b : List ℕ) (S : Stack) : Type 0 where
  pub n_is : S.n ≡ at b 0
  pub n-low : 1 ≤ S.n
  pub n-high : S.n ≤ 64
  pub m_is : length S.planes ≡ at b 1
  pub m-low : 1 ≤ length S.planes
  pub m-high : length S.planes ≤ 6
  pub planes : ArePlanes S.n S.planes
  pub q_pos : 0 < levels S
  pub q-high : levels S ≤ 64

pub stack_opened : (b : List ℕ) (S : Stack) → open_stack b ≡ given S → StackRanges b S
unfolding open_stack
stack_opened b S e =
    let t = between 1 (at b 0) 64 && between 1 (at b 1) 6 in
    let (a₁, e₁) = not_refused 1 (ltb (length b) 2) _ S e in
    let (h, e₂) = passed 2 t _ S e₁ in
    let (ps, e₃, e₄) = after-given (open_planes (at b 1) (at b 0) (drop 2 b)) _ S e₂ in
    let (a₅, e₅) = not_refused 7 (ltb 64 (product ps)) _ S e₄ in
    let (k, m) = planes_opened (at b 1) (at b 0) (drop 2 b) ps e₃ in
    let m₁ : 1 ≤ at b 1 = leb→le 1 (at b 1) (search (and_left, and_right)) in
    let m₆ : at b 1 ≤ 6 = leb→le (at b 1) 6 (search (and_left, and_right)) in
    let s : record { n = at b 0; planes = ps } ≡ S = cc in
    subst (StackRanges b) s (record {
      n_is = refl;
      n-low = leb→le 1 (at b 0) (search (and_left, and_right));
      n-high = leb→le (at b 0) 64 (search (and_left, and_right));
      m_is = m;
      m-low = omega arith;
      m-high = omega arith;
      planes = k;
      q_pos = product_pos (at b 0) ps k;
      q-high = ltb-false 64 (product ps) a₅;
    })

-- Tests of each plane

module _ (f : ℕ → Code → Bool) (R : ℕ → Code → Type 0) where
  pub test_planes : ((w : ℕ) (p : Code) → T (f w p) → R w p) → (w : ℕ) (ps : List Code) → T (all_planes f w ps) → EachPlane R w ps
  test_planes g w [] h = tt
  test_planes g w (p ∷ ps) h =
      (g w p (and_left (f w p) (all_planes f (w * p.M) ps) h), test_planes g (w * p.M) ps (and_right (f w p) (all_planes f (w * p.M) ps) h))

  pub planes_test : ((w : ℕ) (p : Code) → R w p → T (f w p)) → (w : ℕ) (ps : List Code) → EachPlane R w ps → T (all_planes f w ps)
  planes_test g w [] h = tt
  planes_test g w (p ∷ ps) h = and_both (f w p) (all_planes f (w * p.M) ps) (g w p h.0) (planes_test g (w * p.M) ps h.1)

pub stack_acceptance : (S : Stack) → T (accepted_stack S) ↔ AcceptedStack S
unfolding accepted_stack
stack_acceptance S = (
  test_planes (λ w p. accepted p) (λ w p. Accepted p) (λ w p h. (acceptance p).0 h) 1 S.planes,
  planes_test (λ w p. accepted p) (λ w p. Accepted p) (λ w p h. (acceptance p).1 h) 1 S.planes,
)

-- demand 1 for stacks
pub stack_tested : (b : List ℕ) (S : Stack) → open_stack b ≡ given S → Tested (AcceptedStack S) (test_stack b)
unfolding test_stack
stack_tested b S e = rw e (tested_by (accepted_stack S) (AcceptedStack S) (stack_acceptance S).0 (stack_acceptance S).1)
