-- A made table is a permutation where the test of its length was passed.
use mathlib.Core.Path.{◌≡◌, refl, sym, subst}
use mathlib.Core.Bool.{Bool, true, false, ◌&&◌, not, true≢false}
use mathlib.Core.Logic.{inl, inr}
use mathlib.Core.List.{List}
use Prim.Native.Nat.{ℕ}
use lib.Dec.{T, eqb}
use borrow.Author.Tests.{eqb-true}
use Rattle.definitions.specs.Labels.{Permutation, made_table}
use Rattle.definitions.specs.PowersOfTwo.{is_power_of_two}
use Rattle.word_laws.proofs.PowersOfTwo.{test_power}
use Rattle.labeling_theorems.proofs.MadeTables.{made_permutation}

module _ (kind q : ℕ) (table : List ℕ) where
  pub made_permuted : table ≡ made_table kind q → (not (eqb kind 1) && not (is_power_of_two q)) ≡ false → Permutation table
  made_permuted e h = subst Permutation (sym e) (step (eqb kind 1) (is_power_of_two q) refl refl h)
    where
      step : (a b : Bool) → eqb kind 1 ≡ a → is_power_of_two q ≡ b → (not a && not b) ≡ false → Permutation (made_table kind q)
      step true b i j k = made_permutation kind q (inl (eqb-true kind 1 i))
      step false true i j k = made_permutation kind q (inr (test_power q (subst T (sym j) tt)))
      step false false i j k = absurd (true≢false k)
