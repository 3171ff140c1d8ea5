-- Applying a label table one way and then the other gives the input back; what making labels gives is a permutation.
use mathlib.Core.Path.{◌≡◌, refl, sym, ap₂, subst, ◌∙◌}
use mathlib.Core.Bool.{Bool, true, false, ◌&&◌, not}
use mathlib.Core.Logic.{inl, inr}
use mathlib.Core.List.{List, [], ◌∷◌, map}
use Prim.Native.Nat.{ℕ, ◌<◌}
use native.Mathlib.Omega.{arith}
use lib.Dec.{T, eqb, eqb→eq}
use lib.ListN.{length, length-map}
use borrow.Author.Tests.{eqb-true}
use Rattle.definitions.specs.Words.{all_below, EachCell}
use Rattle.definitions.specs.Answers.{Answer, given, refused, refused_at, Result, refuse◌when◌else◌, result, after}
use Rattle.definitions.specs.CodeOperations.{between}
use Rattle.definitions.specs.Labels.{Permutation, made_table, is_permutation, level_of, state_of}
use Rattle.definitions.specs.PowersOfTwo.{is_power_of_two}
use Rattle.definitions.specs.LabelOperations.{make_labels, applicable, applied, to_levels, to_states, GoesBack}
use Rattle.definitions.proofs.Tests.{below_each, each_below, eq_test}
use Rattle.word_laws.proofs.PowersOfTwo.{test_power}
use Rattle.labeling_theorems.proofs.Permutations.{test_permutation, level_of_state, state_of_level, state_below, level_below}
use Rattle.labeling_theorems.proofs.MadeTables.{made_permutation}

-- a test that was passed
passed : {A : Type 0} (k : ℕ) (b : Bool) (a : Answer A) (w : A) → (refuse k when not b else a) ≡ given w → T b × (a ≡ given w)
passed k true a w e = (tt, e)
passed k false a w e = let z : ◌≡◌ {A = ℕ} 0 1 = cc in absurd (omega arith)

-- what an application that is not refused has met
pub record Applicable (table input : List ℕ) (room : ℕ) : Type 0 where
  pub size : T (between 2 (length table) 64)
  pub permuted : T (is_permutation table)
  pub long : length input ≡ room
  pub below : T (all_below (length table) input)

pub applicable_met : (t x : List ℕ) (n : ℕ) → applicable t x n ≡ given tt → Applicable t x n
unfolding applicable
applicable_met t x n e =
    let (a, e₁) = passed 2 (between 2 (length t) 64) _ tt e in
    let (b, e₂) = passed 13 (is_permutation t) _ tt e₁ in
    let (c, e₃) = passed 8 (eqb (length x) n) _ tt e₂ in
    let (d, e₄) = passed 10 (all_below (length t) x) _ tt e₃ in
    record { size = a; permuted = b; long = eqb→eq (length x) n c; below = d }

pass : {A : Type 0} (k : ℕ) (b : Bool) (a : Answer A) → T b → (refuse k when not b else a) ≡ a
pass k true a h = refl
pass k false a h = absurd h

pub met_applicable : (t x : List ℕ) (n : ℕ) → Applicable t x n → applicable t x n ≡ given tt
unfolding applicable
met_applicable t x n h =
    pass 2 (between 2 (length t) 64) _ h.size ∙ pass 13 (is_permutation t) _ h.permuted
    ∙ pass 8 (eqb (length x) n) _ (eq_test (length x) n h.long) ∙ pass 10 (all_below (length t) x) _ h.below

-- what was done where the answer is not a refusal
done : (f : ℕ → ℕ) (t x out : List ℕ) → (applied f t x out).answer ≡ given tt → Applicable t x (length out) × ((applied f t x out).out ≡ map f x)
done f t x out e = step (applicable t x (length out)) refl e
  where
    step : (a : Answer (Unit {0})) → applicable t x (length out) ≡ a
        → (result {A = Unit {0}} (after a λ _. given (tt, map f x)) out).answer ≡ given tt
        → Applicable t x (length out) × ((result {A = Unit {0}} (after a λ _. given (tt, map f x)) out).out ≡ map f x)
    step (given u) p q = (applicable_met t x (length out) p, refl)
    step (refused k) p q = let z : ◌≡◌ {A = ℕ} 0 1 = cc in absurd (omega arith)
    step (refused_at k j) p q = let z : ◌≡◌ {A = ℕ} 0 1 = cc in absurd (omega arith)

-- one way and then the other, over the functions f and g of the two ways
module _ (t : List ℕ) (f g : ℕ → ℕ) (kept : (v : ℕ) → v < length t → f v < length t) (back : (v : ℕ) → v < length t → g (f v) ≡ v) where
  each-kept : (x : List ℕ) → EachCell (λ v. v < length t) x → EachCell (λ v. v < length t) (map f x)
  each-kept [] h = tt
  each-kept (v ∷ x) h = (kept v h.0, each-kept x h.1)

  all_back : (x : List ℕ) → EachCell (λ v. v < length t) x → map g (map f x) ≡ x
  all_back [] h = refl
  all_back (v ∷ x) h = ap₂ {C = List ℕ} (λ a b. a ∷ b) (back v h.0) (all_back x h.1)

  goes_back : (x out : List ℕ) → GoesBack (applied g t) x (applied f t x out).answer (applied f t x out).out
  goes_back x out e lent l =
      let (h, w) = done f t x out e in
      let cells = below_each (length t) x h.below in
      let again : Applicable t (map f x) (length lent) = record {
        size = h.size;
        permuted = h.permuted;
        long = length-map x f ∙ sym l;
        below = each_below (length t) (map f x) (each-kept x cells);
      } in
      rw (w, met_applicable t (map f x) (length lent) again, all_back x cells)

pub levels_go_back : (t x out : List ℕ) → GoesBack (to_states t) x (to_levels t x out).answer (to_levels t x out).out
unfolding to_levels to_states
levels_go_back t x out e =
    let p = test_permutation t (done (level_of t) t x out e).0.permuted in
    goes_back t (level_of t) (state_of t) (level_below t p) (state_of_level t p) x out e

pub states_go_back : (t x out : List ℕ) → GoesBack (to_levels t) x (to_states t x out).answer (to_states t x out).out
unfolding to_levels to_states
states_go_back t x out e =
    let p = test_permutation t (done (state_of t) t x out e).0.permuted in
    goes_back t (state_of t) (level_of t) (state_below t p) (level_of_state t p) x out e

-- the table that making labels leaves, where it is not refused
pub made_labels : (kind : ℕ) (table : List ℕ) → (make_labels kind table).answer ≡ given tt → Permutation (make_labels kind table).out
unfolding make_labels
made_labels kind table e =
    step (between 2 (length table) 64 && between 1 kind 3) (eqb kind 1) (is_power_of_two (length table)) refl refl e
  where
    made : Bool → Bool → Bool → Result (Unit {0})
    made a b c = result (refuse 2 when not a else refuse 14 when not b && not c else given (tt, made_table kind (length table))) table

    step : (a b c : Bool) → eqb kind 1 ≡ b → is_power_of_two (length table) ≡ c → (made a b c).answer ≡ given tt → Permutation (made a b c).out
    step false b c p q r = let z : ◌≡◌ {A = ℕ} 0 1 = cc in absurd (omega arith)
    step true true c p q r = made_permutation kind (length table) (inl (eqb-true kind 1 p))
    step true false true p q r = made_permutation kind (length table) (inr (test_power (length table) (subst T (sym q) tt)))
    step true false false p q r = let z : ◌≡◌ {A = ℕ} 0 1 = cc in absurd (omega arith)
