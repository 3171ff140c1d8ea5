-- A stack's count is at most the sum of its planes' t; and a codeword is within reach of itself.
use mathlib.Core.Path.{◌≡◌, refl, sym, ap, ap₂, ◌∙◌, subst}
use mathlib.Core.Bool.{Bool, true, false, cond}
use mathlib.Core.List.{List, [], ◌∷◌, map}
use Prim.Native.Nat.{ℕ, zero, suc, ◌+◌, ◌*◌, ◌-◌, ◌/◌, ◌%◌, ◌≤◌, ◌<◌}
use native.Mathlib.Nat.{zero-div, zero-mod, mod-eq_of_lt, mul_assoc, mul-one, add-zero, zero-mul, div-one, div-add-mod', div-div-eq-div-mul}
use native.Mathlib.Nat.{div-eq_of_lt, mod_self}
use native.Mathlib.Omega.{arith}
use lib.Dec.{eqb}
use lib.ListN.{length}
use borrow.Author.Tests.{eqb-false}
use Rattle.definitions.specs.Words.{weight, distance, EachCell}
use Rattle.definitions.specs.Answers.{given}
use Rattle.definitions.specs.Codes.{Code}
use Rattle.definitions.specs.Stacks.{Stack, product, levels, digits}
use Rattle.definitions.specs.Reach.{difference, StackReach}
use Rattle.definitions.specs.StackCodewords.{StackCodeword}
use Rattle.definitions.specs.StackDecoding.{decode_word}
use Rattle.word_laws.proofs.Cells.{at_each}
use Rattle.stack_theorems.proofs.Digits.{first_present}
use Rattle.stack_theorems.proofs.Opened.{ArePlanes, product_pos}
use Rattle.stack_theorems.proofs.Decoding.{FewDigits, difference-length, difference_below, decode-only}

-- the sum of the planes' t
abbrev pub sum_of_t : List Code → ℕ
sum_of_t [] = 0
sum_of_t (p ∷ ps) = p.t + sum_of_t ps

-- one cell more: a is 0 where b and c are
weight_split : (a b c : ℕ) (x y z : List ℕ) → (b ≡ 0 → c ≡ 0 → a ≡ 0) → weight x ≤ weight y + weight z → weight (a ∷ x) ≤ weight (b ∷ y) + weight (c ∷ z)
weight_split zero zero zero x y z h g = g
weight_split zero zero (suc c) x y z h g = omega arith
weight_split zero (suc b) zero x y z h g = omega arith
weight_split zero (suc b) (suc c) x y z h g = omega arith
weight_split (suc a) zero zero x y z h g = absurd (omega (arith, h refl refl))
weight_split (suc a) zero (suc c) x y z h g = omega arith
weight_split (suc a) (suc b) zero x y z h g = omega arith
weight_split (suc a) (suc b) (suc c) x y z h g = omega arith

-- the digits from place value w upward
abbrev above : ℕ → List ℕ → List ℕ
above w E = map (λ v. v / w) E

weight-digit : (w M : ℕ) (E : List ℕ) → weight (above w E) ≤ weight (digits w M E) + weight (above (w * M) E)
weight-digit w M [] = omega arith
weight-digit w M (v ∷ E) =
    weight_split (v / w) (v / w % M) (v / (w * M)) (above w E) (digits w M E) (above (w * M) E)
    (λ low high.
    let a : v / w / M ≡ 0 = div-div-eq-div-mul v w M ∙ high in
    sym (div-add-mod' (v / w) M) ∙ ap₂ (λ (i j : ℕ). i * M + j) a low ∙ ap (λ (u : ℕ). u + 0) (zero-mul M))
    (weight-digit w M E)

weight_none : (w : ℕ) (E : List ℕ) → EachCell (λ v. v < w) E → weight (above w E) ≡ 0
weight_none w [] h = refl
weight_none w (v ∷ E) h = ap (λ (u : ℕ). weight (u ∷ above w E)) (div-eq_of_lt h.0) ∙ weight_none w E h.1

few_total : (ps : List Code) (w : ℕ) (E : List ℕ) → EachCell (λ v. v < w * product ps) E → FewDigits E w ps → weight (above w E) ≤ sum_of_t ps
few_total [] w E b h = omega (arith, weight_none w E (subst (λ (q : ℕ). EachCell (λ v. v < q) E) (mul-one w) b))
few_total (p ∷ ps) w E b h =
    let c = subst (λ (q : ℕ). EachCell (λ v. v < q) E) (sym (mul_assoc w p.M (product ps))) b in
    omega (arith, weight-digit w p.M E, few_total ps (w * p.M) E c h.1, h.0)

-- where the difference is 0 the levels are equal
no_difference : (q a b : ℕ) → a < q → b < q → (a + (q - b)) % q ≡ 0 → b ≡ a
no_difference q a b ha hb h =
    sym (mod-eq_of_lt hb) ∙ ap (λ (u : ℕ). u % q) (sym (add-zero b) ∙ ap (λ (u : ℕ). b + u) (sym (ap (λ (u : ℕ). u / 1 * 1) h)))
    ∙ first_present q b a hb ha

distance-weight : (q : ℕ) (y c : List ℕ) → EachCell (λ v. v < q) y → EachCell (λ v. v < q) c → distance c y ≤ weight (above 1 (difference q y c))
distance-weight q [] [] hy hc = omega arith
distance-weight q [] (b ∷ c) hy hc = omega arith
distance-weight q (a ∷ y) [] hy hc = omega arith
distance-weight q (a ∷ y) (b ∷ c) hy hc =
    step (eqb b a) refl ((a + (q - b)) % q / 1) (div-one ((a + (q - b)) % q)) (distance-weight q y c hy.1 hc.1)
  where
    step : (t : Bool) → eqb b a ≡ t → (d : ℕ) → d ≡ (a + (q - b)) % q → distance c y ≤ weight (above 1 (difference q y c))
        → cond t 0 1 + distance c y ≤ weight (d ∷ above 1 (difference q y c))
    step true e zero g h = omega arith
    step true e (suc d) g h = omega arith
    step false e zero g h = absurd (eqb-false b a e (no_difference q a b hy.0 hc.0 (sym g)))
    step false e (suc d) g h = omega arith

-- a cell that differs has a digit of the difference that is not 0
pub count_bound : (S : Stack) (y : List ℕ) → ArePlanes S.n S.planes → length y ≡ S.n → EachCell (λ v. v < levels S) y
    → (k : ℕ) (c : List ℕ) → decode_word S y ≡ given (k, c) → k ≤ sum_of_t S.planes
count_bound S y hps ly bounded k c q =
    let (h, e) = decode-only S y hps ly bounded k c q in
    let a : distance c y ≤ weight (above 1 (difference (levels S) y c)) = distance-weight (levels S) y c bounded h.0.bounded in
    let l : length (difference (levels S) y c) ≡ S.n = difference-length S.n (levels S) y c ly h.0.long in
    let b : EachCell (λ v. v < 1 * levels S) (difference (levels S) y c)
    = at_each (λ v. v < 1 * levels S) (difference (levels S) y c)
    (λ i g. omega (arith, difference_below S.n (levels S) y c ly h.0.long (product_pos S.n S.planes hps) i (omega arith))) in
    omega (arith, few_total S.planes 1 (difference (levels S) y c) b h.1)

-- a word is within reach of itself
digits-zero : (w M q : ℕ) (y : List ℕ) → EachCell (λ v. v < q) y → weight (digits w M (difference q y y)) ≡ 0
digits-zero w M q [] h = refl
digits-zero w M q (a ∷ y) h =
    ap (λ (u : ℕ). weight (u ∷ digits w M (difference q y y))) (ap (λ (u : ℕ). u / w % M) (whole a h.0) ∙ ap (λ (u : ℕ). u % M) (zero-div w) ∙ zero-mod M)
    ∙ digits-zero w M q y h.1
  where
    whole : (a : ℕ) → a < q → (a + (q - a)) % q ≡ 0
    whole a h = let e : a + (q - a) ≡ q = omega arith in ap (λ (u : ℕ). u % q) e ∙ mod_self q

few_self : (q : ℕ) (y : List ℕ) → EachCell (λ v. v < q) y → (w : ℕ) (ps : List Code) → FewDigits (difference q y y) w ps
few_self q y h w [] = tt
few_self q y h w (p ∷ ps) = (omega (arith, digits-zero w p.M q y h), few_self q y h (w * p.M) ps)

pub reach_self : (S : Stack) (y : List ℕ) → StackCodeword S y → StackReach S y y
reach_self S y h = few_self (levels S) y h.bounded 1 S.planes
