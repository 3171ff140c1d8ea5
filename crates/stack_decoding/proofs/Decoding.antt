-- Decoding plane after plane.
use Rattle.std.proofs.Common.{◌≡◌, sym, ap, ◌∙◌, Some, None, List, [], ◌∷◌, ℕ, zero, suc, ◌+◌, ◌*◌, ◌-◌, ◌%◌, ◌<◌, ◌≤◌}
use Rattle.std.proofs.Common.{length, drop, arith, get_or, cond, not, ◌==◌, map, sum, zip}
use Rattle.std.proofs.lemmas.List.Sums.{sum_by-cons}
use Rattle.std.specs.Prelude as std
use Rattle.std.proofs.Math.Option.{Option, none, some}
use mathlib.Core.Path.{refl}
use native.Mathlib.Nat.{mul_assoc, le-mul_of_pos_right, mul-le-mul_right}
use native.Mathlib.Numerals.{add-one}
use lib.ListN.{drop_of_length-le}
use Rattle.definitions.specs.Words.{at, distance}
use Rattle.definitions.specs.Answers.{Answer, given, refused_at, result}
use Rattle.definitions.specs.Stacks.{digits, product, levels}
use Rattle.definitions.specs.StackDecoding.{first_with_syndrome, lowered, decode_planes, decode_word}
use Rattle.word_laws.proofs.Cells.{at-map2, length-map2, each_at}
use Rattle.word_laws.proofs.Lists.{first_some}
use Rattle.code_theorems.proofs.Acceptance.{in_pattern}
use Rattle.stack_theorems.proofs.Opened.{product_pos, plane_pos}
use Rattle.answers.specs.Answering.{leaves}
use Rattle.opening.specs.Viewed.{code}
use Rattle.candidate_patterns.specs.Candidates.{magnitude_at, word_of}
use Rattle.candidate_patterns.specs.declared.Risen.{Risen}
use Rattle.candidate_patterns.proofs.Choices.{length-word, word_at}
use Rattle.search.specs.Search.{found_word}
use Rattle.search.specs.declared.Pattern.{Pattern}
use Rattle.stack_opening.specs.Planes.{as_codes}
use Rattle.stack_opening.specs.Viewed.{planes_of, stack}
use Rattle.stack_opening.specs.declared.Stack.{Stack}
use Rattle.stack_opening.specs.declared.plane.Plane.{Plane}
use Rattle.stack_operations.proofs.Planes.{From, value, later, are_planes, next_plane, from_stack, plane_cells, is_plane}

-- the cells that differ, pair by pair
pub distance_is : (x y : List ℕ) → sum (map (λ p. cond (not (p.0 == p.1)) 1 0) (zip x y)) ≡ distance x y
distance_is [] y = refl
distance_is (a ∷ x) [] = refl
distance_is (a ∷ x) (b ∷ y) =
    sum_by-cons (λ (k : ℕ). k) (cond (not (a == b)) 1 0) (map (λ p. cond (not (p.0 == p.1)) 1 0) (zip x y)) ∙ grind (arith, distance_is x y)

-- levels lowered cell by cell
module _ (q w : ℕ) (x : List ℕ) (k : Risen) where
  pub lowered_long : length (lowered q w x (word_of (length x) k)) ≡ length x
  lowered_long = length-map2 (λ a b. (a + (q - b * w)) % q) x (word_of (length x) k) (sym (length-word (length x) k))

  pub lowered_at : (i : ℕ) → i < length x → (at x i + (q - magnitude_at k i * w)) % q ≡ at (lowered q w x (word_of (length x) k)) i
  lowered_at i h =
      ap (λ (b : ℕ). (at x i + (q - b * w)) % q) (sym (word_at (length x) k i h))
      ∙ sym (at-map2 (λ a b. (a + (q - b * w)) % q) x (word_of (length x) k) i h (omega (arith, length-word (length x) k)))

-- from plane j on, each with its place value
abbrev pub decode_from : ℕ → ℕ → List Plane → List ℕ → Answer (List ℕ)
decode_from q j [] x = given x
decode_from q j (p ∷ ps) x =
    elim (first_with_syndrome (code p.code) (digits p.w p.code.m x)) as (λ o. Answer (List ℕ))
    [ none ↦ refused_at 11 j | some e ↦ decode_from q (suc j) ps (lowered q p.w x e) ]

decode_is : (n q w : ℕ) (ps : List Plane) → From n w ps → (j : ℕ) (x : List ℕ) → decode_from q j ps x ≡ decode_planes q w j (as_codes ps) x
unfolding decode_planes
decode_is n q w [] h j x = refl
decode_is n q w (p ∷ ps) h j x =
    ap (λ (u : ℕ). elim (first_with_syndrome (code p.code) (digits u p.code.m x)) as (λ o. Answer (List ℕ))
    [ none ↦ refused_at 11 j | some e ↦ decode_from q (suc j) ps (lowered q u x e) ]) (value n w p ps h)
    ∙ step (λ e. decode_is n q (w * p.code.m) ps (later n w p ps h) (suc j) (lowered q w x e)) (first_with_syndrome (code p.code) (digits w p.code.m x))
  where
    step : ((e : List ℕ) → decode_from q (suc j) ps (lowered q w x e) ≡ decode_planes q (w * p.code.m) (suc j) (as_codes ps) (lowered q w x e))
        → (o : Option (List ℕ))
        → (elim o as (λ o. Answer (List ℕ)) [ none ↦ refused_at 11 j | some e ↦ decode_from q (suc j) ps (lowered q w x e) ])
        ≡ (elim o as (λ o. Answer (List ℕ))
        [ none ↦ refused_at 11 j | some e ↦ decode_planes q (w * p.code.m) (suc j) (as_codes ps) (lowered q w x e) ])
    step f none = refl
    step f (some e) = f e

-- a plane's place value times its c
value_fits : (n w : ℕ) (ps : List Plane) → From n w ps → (j : ℕ) (p : Plane) → j < length ps → p ≡ get_or ps j p
    → p.w * p.code.m ≤ w * product (as_codes ps)
value_fits n w [] h j p l is = absurd (omega arith)
value_fits n w (x ∷ ps) h zero p l is =
    let a : p.w * p.code.m ≡ x.w * x.code.m = ap (λ (p : Plane). p.w * p.code.m) is in
    let b : x.w * x.code.m ≡ w * x.code.m = ap (λ (u : ℕ). u * x.code.m) (value n w x ps h) in
    let c = le-mul_of_pos_right (w * x.code.m) (product_pos n (as_codes ps) (are_planes n (w * x.code.m) ps (later n w x ps h))) in
    omega (arith, a, b, c, mul_assoc w x.code.m (product (as_codes ps)))
value_fits n w (x ∷ ps) h (suc j) p l is =
    omega (arith, value_fits n (w * x.code.m) ps (later n w x ps h) j p (omega arith) is, mul_assoc w x.code.m (product (as_codes ps)))

pub value_most : (s : Stack) (j : ℕ) (p : Plane) → j < length (planes_of s) → p ≡ get_or (planes_of s) j p
    → (p.w * p.code.m ≤ s.q) × (p.w ≤ s.q)
value_most s j p h is =
    let a = value_fits s.n 1 (planes_of s) (from_stack s) j p h is in
    let b = le-mul_of_pos_right p.w (plane_pos s.n (code p.code) (is_plane s.n p (plane_cells s j p h is))) in
    (omega (arith, a, s.levels), omega (arith, a, b, s.levels))

module _ (q : ℕ) (ps : List Plane) (j : ℕ) (p : Plane) (h : j < length ps) (is : p ≡ get_or ps j p) (x : List ℕ) (f : std.Option Pattern)
    (found : found_word p.code.n f ≡ first_with_syndrome (code p.code) (digits p.w p.code.m x)) where
  abbrev next : Option (List ℕ) → Answer (List ℕ)
  next o = elim o as (λ a. Answer (List ℕ)) [ none ↦ refused_at 11 j | some e ↦ decode_from q (j + 1) (drop (j + 1) ps) (lowered q p.w x e) ]

  split_plane : decode_from q j (drop j ps) x ≡ next (found_word p.code.n f)
  split_plane = ap (λ (l : List Plane). decode_from q j l x) (next_plane ps j p p h is)
      ∙ ap (λ (k : ℕ). elim (first_with_syndrome (code p.code) (digits p.w p.code.m x)) as (λ a. Answer (List ℕ))
      [ none ↦ refused_at 11 j | some e ↦ decode_from q k (drop (j + 1) ps) (lowered q p.w x e) ]) (sym (add-one j))
      ∙ ap next (sym found)

  pub nothing_found : f ≡ None → decode_from q j (drop j ps) x ≡ refused_at 11 j
  nothing_found e = split_plane ∙ ap (λ (f : std.Option Pattern). next (found_word p.code.n f)) e

  module _ (y : Pattern) (e : f ≡ Some y) where
    pub magnitudes_fit : p.w * p.code.m ≤ q → (i : ℕ) → i < p.code.n → magnitude_at y.risen i * p.w ≤ q
    unfolding first_with_syndrome
    magnitudes_fit v i g =
        let s : first_with_syndrome (code p.code) (digits p.w p.code.m x) ≡ some (word_of p.code.n y.risen) = sym found ∙ ap (found_word p.code.n) e in
        let a = in_pattern (code p.code) (word_of p.code.n y.risen) (first_some _ _ (word_of p.code.n y.risen) s).0 in
        let b : at (word_of p.code.n y.risen) i ≤ p.code.l
        = each_at (λ u. u ≤ p.code.l) (word_of p.code.n y.risen) a.each i (omega (arith, length-word p.code.n y.risen)) in
        let c : magnitude_at y.risen i * p.w ≤ p.code.m * p.w = mul-le-mul_right p.w (omega (arith, word_at p.code.n y.risen i g, p.whole.1)) in
        omega arith

pub decoded_all : (q j : ℕ) (ps : List Plane) (x : List ℕ) → length ps ≤ j → decode_from q j (drop j ps) x ≡ given x
decoded_all q j ps x h = rw (drop_of_length-le ps h) refl

decodes : (s : Stack) (y : List ℕ) → decode_planes (levels (stack s)) 1 0 (stack s).planes y ≡ decode_from s.q 0 (planes_of s) y
decodes s y = rw (← s.levels) (sym (decode_is s.n s.q 1 (planes_of s) (from_stack s) 0 y))

module _ (s : Stack) (y out : List ℕ) where
  pub refused_in : (j : ℕ) → decode_from s.q 0 (planes_of s) y ≡ refused_at 11 j
      → leaves (refused_at 11 j) out ≡ result (decode_word (stack s) y) out
  unfolding decode_word
  refused_in j e = let f = decodes s y ∙ e in rw f refl

  pub given_by : (x : List ℕ) (k : ℕ) → decode_from s.q 0 (planes_of s) y ≡ given x → k ≡ distance x y
      → leaves (given k) x ≡ result (decode_word (stack s) y) out
  unfolding decode_word
  given_by x k e g = let f = decodes s y ∙ e in rw (f, g) refl
