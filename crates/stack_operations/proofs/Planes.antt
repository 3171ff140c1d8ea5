-- Planes one after another: what holds from a plane and its place value on.
use Rattle.std.proofs.Common.{◌≡◌, sym, ap, ◌∙◌, true, List, [], ◌∷◌, ◌++◌, map, ℕ, suc, ◌+◌, ◌*◌, ◌-◌, ◌<◌, ◌≤◌}
use Rattle.std.proofs.Common.{length, take, drop, arith, All, drop-cons, get_or}
use mathlib.Core.Path.{refl}
use mathlib.Core.List.{append_assoc, append-nil}
use lib.ListN.{length-append, drop_of_length-le}
use lib.Seq.{length-take-le, take_at, take_all}
use Rattle.stack_theorems.proofs.Digits.{digits-length}
use native.Mathlib.Numerals.{add-one}
use Rattle.std.proofs.lemmas.Grind.{common_steps}
use Rattle.std.specs.List.{list_all}
use Rattle.definitions.specs.Words.{all_below}
use Rattle.definitions.specs.Acceptance.{accepted}
use Rattle.definitions.specs.Codewords.{is_codeword}
use Rattle.definitions.specs.Stacks.{digits, all_planes}
use Rattle.definitions.specs.StackCodewords.{accepted_stack, is_stack_codeword}
use Rattle.definitions.specs.StackMessages.{message_length, message_from}
use Rattle.definitions.proofs.Tests.{below_each}
use Rattle.stack_theorems.proofs.Opened.{IsPlane, ArePlanes}
use Rattle.stack_operations.proofs.Messages.{digits_decide, codeword_decides}
use Rattle.opening.specs.Viewed.{code}
use Rattle.stack_opening.specs.declared.plane.Plane.{Plane}
use Rattle.stack_opening.specs.declared.Stack.{Stack}
use Rattle.stack_opening.specs.Viewed.{planes_of, stack}
use Rattle.stack_opening.specs.Planes.{as_codes, place_values}
use Rattle.stack_operations.specs.Parts.{zero_digits, parts}

-- a plane of n cells is a plane of a stack of n cells
pub is_plane : (n : ℕ) (p : Plane) → p.code.n ≡ n → IsPlane n (code p.code)
is_plane n p e =
    let c = p.code in
    record {
      long = e;
      whole = p.whole.0;
      top = p.whole.1;
      M-low = c.levels.0;
      M-high = omega arith;
      r-high = c.cells.2;
      r-below = c.cells.3;
      t-high = c.errors.2;
      t-below = c.errors.3;
      matrix = c.size;
      entries = below_each c.m c.matrix.now (rw c.entries tt);
      few = c.few;
    }

-- planes of n cells whose place values go up from w
pub record From (n w : ℕ) (ps : List Plane) : Type 0 where
  pub each : All (λ p. p.code.n ≡ n) ps
  pub values : map (λ (p : Plane). p.w) ps ≡ place_values w (as_codes ps)

module _ (n w : ℕ) (p : Plane) (ps : List Plane) (h : From n w (p ∷ ps)) where
  pub here : p.code.n ≡ n
  here = h.each 0 p (omega arith)

  pub value : p.w ≡ w
  value = let g = h.values in cc

  pub later : From n (w * p.code.m) ps
  later = record { each = λ k d l. h.each (suc k) d (omega arith); values = let g = h.values in cc }

pub are_planes : (n w : ℕ) (ps : List Plane) → From n w ps → ArePlanes n (as_codes ps)
are_planes n w [] h = tt
are_planes n w (p ∷ ps) h = (is_plane n p (here n w p ps h), are_planes n (w * p.code.m) ps (later n w p ps h))

pub zeros_decide : (n : ℕ) (c : List ℕ) → length c ≡ n → (w : ℕ) (ps : List Plane) → From n w ps
    → list_all (zero_digits c) ps ≡ all_planes (λ w p. is_codeword p (digits w p.M c)) w (as_codes ps)
zeros_decide n c long w [] h = grind arith
zeros_decide n c long w (p ∷ ps) h =
    let e = digits_decide n (code p.code) (is_plane n p (here n w p ps h)) p.w c long in
    let f = zeros_decide n c long (w * p.code.m) ps (later n w p ps h) in
    rw (← value n w p ps h, e) (rw (value n w p ps h, f) refl)

pub parts_are : (n w : ℕ) (c : List ℕ) (ps : List Plane) → From n w ps → parts c ps ≡ message_from w (as_codes ps) c
parts_are n w c [] h = grind arith
parts_are n w c (p ∷ ps) h = rw (parts_are n (w * p.code.m) c ps (later n w p ps h), value n w p ps h) refl

pub next_plane : (ps : List Plane) (j : ℕ) (d p : Plane) → j < length ps → p ≡ get_or ps j d → drop j ps ≡ p ∷ drop (j + 1) ps
next_plane ps j d p h e = rw (add-one, e) (drop-cons ps j d h)

-- a part is stored after the cells before start
stored_part : (out part : List ℕ) (start : ℕ) → start ≤ length out → (i : ℕ)
    → take (start + length part) (take start out ++ (part ++ drop i (drop start out))) ≡ take start out ++ part
stored_part out part start fits i =
    let e : length (take start out ++ part) ≡ start + length part
    = length-append (take start out) part ∙ ap (λ (i : ℕ). i + length part) (length-take-le start out fits) in
    rw (← append_assoc) (take_at (take start out ++ part) (drop i (drop start out)) (start + length part) e)

-- plane j of these, whose message's digits are stored from `at` on
module _ (n : ℕ) (c : List ℕ) (ps : List Plane) (at : ℕ) (out : List ℕ) (j : ℕ) where
  abbrev pub Room : ℕ → Type 0
  Room size = at + message_length (as_codes (drop j ps)) ≡ size

  abbrev pub Done : Type 0
  Done = parts c ps ≡ take at out ++ parts c (drop j ps)

  module _ (p : Plane) (h : j < length ps) (is : p ≡ get_or ps j p) where
    module _ (e : p.code.n ≡ n) where
      pub room_next : (size : ℕ) → Room size → at + (n - p.code.r) + message_length (as_codes (drop (j + 1) ps)) ≡ size
      room_next size r = omega (arith, rw (next_plane ps j p p h is) at r)

      pub done_next : (x : List ℕ) (i : ℕ) → Done → at ≤ length out → length c ≡ n → x ≡ take (n - p.code.r) (digits p.w p.code.m c)
          → parts c ps ≡ take (at + (n - p.code.r)) (take at out ++ (x ++ drop i (drop at out))) ++ parts c (drop (j + 1) ps)
      done_next x i r fits long x_is =
          let k = n - p.code.r in
          let size : length x ≡ k = ap length x_is ∙ length-take-le k (digits p.w p.code.m c) (omega (arith, digits-length p.w p.code.m c)) in
          let stored : take (at + k) (take at out ++ (x ++ drop i (drop at out))) ≡ take at out ++ x
          = ap (λ (l : ℕ). take (at + l) (take at out ++ (x ++ drop i (drop at out)))) (sym size) ∙ stored_part out x at fits i in
          let next : parts c (drop j ps) ≡ x ++ parts c (drop (j + 1) ps)
          = ap (parts c) (next_plane ps j p p h is)
          ∙ ap (λ (z : ℕ). take (z - p.code.r) (digits p.w p.code.m c) ++ parts c (drop (j + 1) ps)) e
          ∙ ap (λ (z : List ℕ). z ++ parts c (drop (j + 1) ps)) (sym x_is) in
          r ∙ ap (λ (z : List ℕ). take at out ++ z) next ∙ sym (append_assoc (take at out) x _)
          ∙ ap (λ (z : List ℕ). z ++ parts c (drop (j + 1) ps)) (sym stored)

  pub done_last : length ps ≤ j → Room (length out) → Done → out ≡ parts c ps
  done_last h r d =
      let e = drop_of_length-le ps h in
      let all : length out ≤ at = omega (arith, rw e at r) in
      sym (d ∙ rw e (append-nil (take at out)) ∙ take_all at out all)

-- an opened stack
pub from_stack : (s : Stack) → From s.n 1 (planes_of s)
from_stack s = record { each = grind (arith, common_steps, s.each); values = s.values }

-- an item of a slice of planes
pub item_of : (ps slice : List Plane) → slice ≡ ps → (j : ℕ) (p : Plane) → j < length slice → p ≡ get_or slice j p → (j < length ps) × (p ≡ get_or ps j p)
item_of ps slice e j p h is = rw (← e) (h, is)

-- its planes have its cells
pub plane_cells : (s : Stack) (j : ℕ) (p : Plane) → j < length (planes_of s) → p ≡ get_or (planes_of s) j p → p.code.n ≡ s.n
plane_cells s j p h is = ap (λ (p : Plane). p.code.n) is ∙ (from_stack s).each j p h

pub stack_planes : (s : Stack) → ArePlanes s.n (stack s).planes
stack_planes s = are_planes s.n 1 (planes_of s) (from_stack s)

pub codeword_by_digits : (s : Stack) (c : List ℕ) → length c ≡ s.n → all_below s.q c ≡ true
    → list_all (zero_digits c) (planes_of s) ≡ is_stack_codeword (stack s) c
codeword_by_digits s c e h =
    zeros_decide s.n c e 1 (planes_of s) (from_stack s) ∙ sym (codeword_decides (stack s) c e (rw (← s.levels) h))

accepted_planes : (w : ℕ) (ps : List Plane) → list_all (λ p. accepted (code p.code)) ps ≡ all_planes (λ w p. accepted p) w (as_codes ps)
accepted_planes w [] = refl
accepted_planes w (p ∷ ps) = grind (arith, accepted_planes (w * p.code.m) ps)

pub accepted_is : (s : Stack) → list_all (λ p. accepted (code p.code)) (planes_of s) ≡ accepted_stack (stack s)
unfolding accepted_stack
accepted_is s = accepted_planes 1 (planes_of s)
