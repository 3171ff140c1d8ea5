-- Syndromes add up cell by cell; what choices leave of a syndrome.
use mathlib.Core.Path.{◌≡◌, refl, sym, ap, ap₂, ◌∙◌}
use mathlib.Core.Bool.{Bool, true, false, cond}
use mathlib.Core.Logic.{◌⊎◌, inl, inr}
use mathlib.Core.List.{List}
use Prim.Native.Nat.{ℕ, zero, suc, ◌+◌, ◌*◌, ◌-◌, ◌%◌, ◌≤◌, ◌<◌}
use native.Mathlib.Nat.{add-zero, zero-add, mul-zero, mul-one, mul-add, mul_comm, add_comm, mod-lt, mod-add-mod, add-mod-mod}
use native.Mathlib.Nat.{mod-eq_of_lt, mod-eq-sub-mod, eq-or-lt_of_le}
use native.Mathlib.Decide.{dec_lt}
use native.Mathlib.Omega.{arith}
use lib.Dec.{eqb, ltb}
use borrow.Author.Tests.{lt-ltb, le-ltb}
use Rattle.definitions.specs.Words.{at, sum_to}
use Rattle.definitions.specs.Codes.{Code, data_cells}
use Rattle.definitions.specs.Codewords.{syndrome_entry}
use Rattle.word_laws.proofs.Remainders.{regroup}
use Rattle.syndrome.specs.Columns.{column}
use Rattle.syndrome.proofs.Columns.{sum-zero}
use Rattle.candidate_patterns.specs.declared.Risen.{Risen}
use Rattle.candidate_patterns.specs.Candidates.{magnitude_of, magnitude_at, word_of, unrisen, SyndromeInRange, Remains}
use Rattle.candidate_patterns.proofs.Choices.{of_here, of_other, word_at, word-past, unrisen-at}

-- an entry of the syndrome before it is taken modulo M, of levels by cell
abbrev pub total : Code → (ℕ → ℕ) → ℕ → ℕ
total p x i = sum_to (data_cells p) (λ j. at p.A (i * data_cells p + j) * x j) + x (data_cells p + i)

sum_plus : (w : ℕ) (a x y z : ℕ → ℕ) → ((j : ℕ) → z j ≡ x j + y j) → sum_to w (λ j. a j * z j) ≡ sum_to w (λ j. a j * x j) + sum_to w (λ j. a j * y j)
sum_plus zero a x y z h = refl
sum_plus (suc w) a x y z h =
    ap₂ ◌+◌ (sum_plus w a x y z h) (ap (λ (v : ℕ). a w * v) (h w) ∙ mul-add (a w) (x w) (y w))
    ∙ regroup (sum_to w (λ j. a j * x j)) (sum_to w (λ j. a j * y j)) (a w * x w) (a w * y w)

pub total_plus : (p : Code) (x y z : ℕ → ℕ) → ((j : ℕ) → z j ≡ x j + y j) → (i : ℕ) → total p z i ≡ total p x i + total p y i
total_plus p x y z h i =
    ap₂ ◌+◌ (sum_plus w a x y z h) (h (w + i))
    ∙ regroup (sum_to w (λ j. a j * x j)) (sum_to w (λ j. a j * y j)) (x (w + i)) (y (w + i))
  where
    w : ℕ
    w = data_cells p

    a : ℕ → ℕ
    a j = at p.A (i * w + j)

sum_none : (w : ℕ) (a x : ℕ → ℕ) → ((j : ℕ) → j < w → x j ≡ 0) → sum_to w (λ j. a j * x j) ≡ 0
sum_none w a x h = sum-zero w (λ j. a j * x j) (λ j b. ap (λ (v : ℕ). a j * v) (h j b) ∙ mul-zero (a j))

pub total_none : (p : Code) (x : ℕ → ℕ) → ((j : ℕ) → x j ≡ 0) → (i : ℕ) → total p x i ≡ 0
total_none p x h i = ap₂ ◌+◌ (sum_none (data_cells p) (λ j. at p.A (i * data_cells p + j)) x (λ j _. h j)) (h (data_cells p + i))

sum_one : (w : ℕ) (a : ℕ → ℕ) (c d : ℕ) → c < w → sum_to w (λ j. a j * magnitude_of c d j) ≡ d * a c
sum_one zero a c d h = absurd (omega arith)
sum_one (suc w) a c d h = step (eq-or-lt_of_le b) (λ (g : c < w). sum_one w a c d g)
  where
    b : c ≤ w
    b = omega arith

    step :
        (c ≡ w) ⊎ (c < w) → (c < w → sum_to w (λ j. a j * magnitude_of c d j) ≡ d * a c)
        → sum_to w (λ j. a j * magnitude_of c d j) + a w * magnitude_of c d w ≡ d * a c
    step (inl e) ih =
        ap₂ ◌+◌ (sum_none w a (magnitude_of c d) (λ j g. of_other c d j (λ q. omega arith))) (ap (λ (v : ℕ). a w * v) (of_here c d w e))
        ∙ zero-add (a w * d) ∙ mul_comm (a w) d ∙ ap (λ (v : ℕ). d * a v) (sym e)
    step (inr g) ih =
        ap₂ ◌+◌ (ih g) (ap (λ (v : ℕ). a w * v) (of_other c d w (λ q. omega arith)) ∙ mul-zero (a w)) ∙ add-zero (d * a c)

pub total_one : (p : Code) (c d i : ℕ) → total p (magnitude_of c d) i ≡ d * column p i c
unfolding column
total_one p c d i = step (dec_lt c w)
  where
    w : ℕ
    w = data_cells p

    a : ℕ → ℕ
    a j = at p.A (i * w + j)

    unit : (b : Bool) → cond b d 0 ≡ d * cond b 1 0
    unit true = sym (mul-one d)
    unit false = sym (mul-zero d)

    step : Dec (c < w) → sum_to w (λ j. a j * magnitude_of c d j) + magnitude_of c d (w + i) ≡ d * cond (ltb c w) (a c) (cond (eqb c (w + i)) 1 0)
    step (yes h) =
        ap₂ ◌+◌ (sum_one w a c d h) (of_other c d (w + i) (λ q. omega arith)) ∙ add-zero (d * a c)
        ∙ ap (λ (b : Bool). d * cond b (a c) (cond (eqb c (w + i)) 1 0)) (sym (lt-ltb c w h))
    step (no h) =
        ap₂ ◌+◌ (sum_none w a (magnitude_of c d) (λ j g. of_other c d j (λ q. omega arith))) (unit (eqb c (w + i))) ∙ zero-add (d * cond (eqb c (w + i)) 1 0)
        ∙ ap (λ (b : Bool). d * cond b (a c) (cond (eqb c (w + i)) 1 0)) (sym (le-ltb c w (omega arith)))

-- what has the syndrome of a sum
module _ (p : Code) where
  pub entry_plus : (x z : List ℕ) (y : ℕ → ℕ) → ((j : ℕ) → at z j ≡ at x j + y j) → (i : ℕ) → syndrome_entry p z i ≡ (syndrome_entry p x i + total p y i) % p.M
  unfolding syndrome_entry
  entry_plus x z y h i = ap (λ (v : ℕ). v % p.M) (total_plus p (at x) y (at z) h i) ∙ sym (mod-add-mod (total p (at x) i) p.M (total p y i))

  pub entry_none : (x : List ℕ) → 0 < p.M → ((j : ℕ) → at x j ≡ 0) → (i : ℕ) → syndrome_entry p x i ≡ 0
  unfolding syndrome_entry
  entry_none x h z i = ap (λ (v : ℕ). v % p.M) (total_none p (at x) z i) ∙ mod-eq_of_lt h

-- k' is k with the magnitude d more at cell c
abbrev pub Raised : Risen → ℕ → ℕ → Risen → Type 0
Raised k c d k' = (j : ℕ) → magnitude_at k' j ≡ magnitude_at k j + magnitude_of c d j

raised_at : (n : ℕ) (k : Risen) (c d : ℕ) (k' : Risen) → c < n → Raised k c d k' → (j : ℕ) → at (word_of n k') j ≡ at (word_of n k) j + magnitude_of c d j
raised_at n k c d k' h g j = step (dec_lt j n)
  where
    step : Dec (j < n) → at (word_of n k') j ≡ at (word_of n k) j + magnitude_of c d j
    step (yes b) = word_at n k' j b ∙ g j ∙ ap (λ (v : ℕ). v + magnitude_of c d j) (sym (word_at n k j b))
    step (no b) =
        let le : n ≤ j = omega arith in
        word-past n k' j le ∙ sym (ap₂ ◌+◌ (word-past n k j le) (of_other c d j (λ q. omega arith)))

pub entry-raised :
    (p : Code) (k : Risen) (c d : ℕ) (k' : Risen) → c < p.n → Raised k c d k' → (i : ℕ)
    → syndrome_entry p (word_of p.n k') i ≡ (syndrome_entry p (word_of p.n k) i + d * column p i c) % p.M
entry-raised p k c d k' h g i =
    entry_plus p (word_of p.n k) (word_of p.n k') (magnitude_of c d) (raised_at p.n k c d k' h g) i
    ∙ ap (λ (v : ℕ). (syndrome_entry p (word_of p.n k) i + v) % p.M) (total_one p c d i)

-- remainders
pub add_cancel : (M a b s : ℕ) → a < M → b < M → (s + a) % M ≡ (b + s) % M → a ≡ b
add_cancel M a b s ha hb e = only (s % M) (mod-lt s (omega arith)) (mod-add-mod s M a ∙ e ∙ sym (add-mod-mod b s M))
  where
    only : (s : ℕ) → s < M → (s + a) % M ≡ (b + s) % M → a ≡ b
    only s hs e = step (dec_lt (s + a) M) (dec_lt (b + s) M)
      where
        inside : (x : ℕ) → x < M → x % M ≡ x
        inside x h = mod-eq_of_lt h

        past : (x : ℕ) → M ≤ x → x < M + M → x % M ≡ x - M
        past x h g = mod-eq-sub-mod h ∙ mod-eq_of_lt (omega arith)

        step : Dec (s + a < M) → Dec (b + s < M) → a ≡ b
        step (yes f) (yes g) = omega (arith, inside (s + a) f, inside (b + s) g)
        step (yes f) (no g) = omega (arith, inside (s + a) f, past (b + s) (omega arith) (omega arith))
        step (no f) (yes g) = omega (arith, past (s + a) (omega arith) (omega arith), inside (b + s) g)
        step (no f) (no g) = omega (arith, past (s + a) (omega arith) (omega arith), past (b + s) (omega arith) (omega arith))

-- what remains of a syndrome, once cell c has the magnitude d more
module _
    (p : Code) (s : List ℕ) (k : Risen) (rest : List ℕ) (left : Remains p s k rest) (c d : ℕ) (k' : Risen) (h : c < p.n)
    (g : Raised k c d k') (i : ℕ) where
  before : ℕ
  before = syndrome_entry p (word_of p.n k) i

  pub column_hit : (d * column p i c) % p.M ≡ at rest i → syndrome_entry p (word_of p.n k') i ≡ at s i
  unfolding before
  column_hit e =
      entry-raised p k c d k' h g i
      ∙ sym (add-mod-mod before (d * column p i c) p.M)
      ∙ ap (λ (v : ℕ). (before + v) % p.M) e
      ∙ ap (λ (v : ℕ). v % p.M) (add_comm before (at rest i))
      ∙ left.sum i

  pub column-only : syndrome_entry p (word_of p.n k') i ≡ at s i → (d * column p i c) % p.M ≡ at rest i
  unfolding before
  column-only e =
      let m : 0 < p.M = (let b = left.below i in omega arith) in
      add_cancel p.M ((d * column p i c) % p.M) (at rest i) before (mod-lt (d * column p i c) m) (left.below i)
      (add-mod-mod before (d * column p i c) p.M ∙ sym (entry-raised p k c d k' h g i) ∙ e ∙ sym (left.sum i))

pub remains_same :
    (p : Code) (s : List ℕ) (k k' : Risen) (rest : List ℕ) → word_of p.n k ≡ word_of p.n k' → Remains p s k rest → Remains p s k' rest
remains_same p s k k' rest e left = record {
  below = left.below;
  sum = λ i. ap (λ (x : List ℕ). (at rest i + syndrome_entry p x i) % p.M) (sym e) ∙ left.sum i;
}

blank : (n j : ℕ) → at (word_of n unrisen) j ≡ 0
blank n j = step (dec_lt j n)
  where
    step : Dec (j < n) → at (word_of n unrisen) j ≡ 0
    step (yes b) = word_at n unrisen j b ∙ unrisen-at j
    step (no b) = word-past n unrisen j (omega arith)

unrisen-entry : (p : Code) → 0 < p.M → (i : ℕ) → syndrome_entry p (word_of p.n unrisen) i ≡ 0
unrisen-entry p h i = entry_none p (word_of p.n unrisen) h (blank p.n) i

-- before any choice all of it remains
pub remains_all : (p : Code) (s : List ℕ) → SyndromeInRange p s → Remains p s unrisen s
remains_all p s r = record {
  below = r.below;
  sum = λ i. ap (λ (v : ℕ). (at s i + v) % p.M) (unrisen-entry p (let b = r.below i in omega arith) i)
      ∙ ap (λ (v : ℕ). v % p.M) (add-zero (at s i)) ∙ mod-eq_of_lt (r.below i);
}
