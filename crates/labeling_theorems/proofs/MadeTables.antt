-- The made tables are permutations: the straight one for every q, the Gray and the reversed one for every power of two.
use mathlib.Core.Path.{◌≡◌, sym, ap, ◌∙◌}
use mathlib.Core.Bool.{Bool, true, false, cond}
use mathlib.Core.Logic.{◌⊎◌, inl, inr}
use mathlib.Core.List.{map}
use Prim.Native.Nat.{ℕ, ◌^◌, ◌<◌}
use native.Mathlib.Nat.{zero-add}
use native.Mathlib.Omega.{arith}
use lib.Dec.{eqb}
use lib.ListN.{length, length-map}
use Rattle.definitions.specs.Words.{at, up_from}
use Rattle.definitions.specs.PowersOfTwo.{PowerOfTwo, log2}
use Rattle.definitions.specs.Labels.{gray, reversed, made_level, made_table, Permutation}
use Rattle.word_laws.proofs.Cells.{length-up_from, at-up_from, at_each}
use Rattle.word_laws.proofs.PowersOfTwo.{log2_power}
use Rattle.labeling_theorems.proofs.GrayLevels.{gray-below, gray-apart}
use Rattle.labeling_theorems.proofs.ReversedLevels.{reversed-below, reversed-apart}

pub made-length : (kind q : ℕ) → length (made_table kind q) ≡ q
unfolding made_table
made-length kind q = length-map (up_from 0 q) (made_level kind q) ∙ length-up_from 0 q

pub made_at : (kind q s : ℕ) → s < q → at (made_table kind q) s ≡ made_level kind q s
unfolding made_table
made_at kind q s h = at-up_from (made_level kind q) 0 q s h ∙ ap (made_level kind q) (zero-add s)

-- a table of q levels below q, different for different states
tabled : (kind q : ℕ) → ((s : ℕ) → s < q → made_level kind q s < q)
    → ((s t : ℕ) → s < q → t < q → made_level kind q s ≡ made_level kind q t → s ≡ t) → Permutation (made_table kind q)
tabled kind q below apart = record {
  levels = at_each (λ v. v < length (made_table kind q)) (made_table kind q)
      (λ s h. let k : s < q = omega (arith, made-length kind q) in rw (made_at kind q s k, made-length kind q) (below s k));
  apart = λ i j a b e.
      let k : i < q = omega (arith, made-length kind q) in
      let l : j < q = omega (arith, made-length kind q) in
      apart i j k l (sym (made_at kind q i k) ∙ e ∙ made_at kind q j l);
}

pub straight_permutation : (q : ℕ) → Permutation (made_table 1 q)
straight_permutation q = tabled 1 q (λ s h. h) (λ s t a b e. e)

pub gray_permutation : (k : ℕ) → Permutation (made_table 2 (2 ^ k))
gray_permutation k = tabled 2 (2 ^ k) (gray-below k) (gray-apart k)

pub reversed_permutation : (k : ℕ) → Permutation (made_table 3 (2 ^ k))
reversed_permutation k =
    tabled 3 (2 ^ k) (λ s h. rw (log2_power k) (reversed-below k s))
    (λ s t a b e. reversed-apart k s t a b (rw (log2_power k) at e))

-- for the kinds by their number: every kind but 1 and 2 is made reversed
pub made_permutation : (kind q : ℕ) → (kind ≡ 1) ⊎ PowerOfTwo q → Permutation (made_table kind q)
unfolding made_table
made_permutation kind q (inl e) = rw e (straight_permutation q)
made_permutation kind q (inr (k, e)) = rw e (step (eqb kind 1) (eqb kind 2))
  where
    step : (one two : Bool) → Permutation (map (λ s. cond one s (cond two (gray s) (reversed (log2 (2 ^ k)) s))) (up_from 0 (2 ^ k)))
    step true two = straight_permutation (2 ^ k)
    step false true = gray_permutation k
    step false false = reversed_permutation k
