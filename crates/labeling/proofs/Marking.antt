-- The loop that marks the level of each state: the states before s are passed.
use mathlib.Core.Path.{◌≡◌, refl, sym, subst, ◌∙◌}
use mathlib.Core.Bool.{Bool, true, false, false≢true}
use mathlib.Core.Logic.{◌↔◌}
use mathlib.Core.List.{List}
use Prim.Native.Nat.{ℕ, zero, suc, ◌≤◌, ◌<◌}
use native.Mathlib.Omega.{arith}
use lib.Dec.{T}
use lib.ListN.{length, get_or, replicate}
use Rattle.definitions.specs.Words.{at}
use Rattle.definitions.specs.Labels.{Permutation, is_permutation}
use Rattle.word_laws.proofs.Cells.{at_each, each_at}
use Rattle.labeling_theorems.proofs.Permutations.{test_permutation, permutation_test}

-- whether a level is marked
abbrev mark : List Bool → ℕ → Bool
mark marks v = get_or marks v false

-- the levels of the passed states are below q, different, and marked; only they are marked
pub record Marked (t : List ℕ) (marks : List Bool) (s : ℕ) : Type 0 where
  pub long : length marks ≡ 256
  pub levels : (i : ℕ) → i < s → at t i < length t
  pub apart : (i j : ℕ) → i < s → j < s → at t i ≡ at t j → i ≡ j
  pub all : (i : ℕ) → i < s → mark marks (at t i) ≡ true
  pub only : (v : ℕ) → mark marks v ≡ true → (i : ℕ) × (i < s) × (at t i ≡ v)

unmarked : (n v : ℕ) → mark (replicate n false) v ≡ false
unmarked zero v = refl
unmarked (suc n) zero = refl
unmarked (suc n) (suc v) = unmarked n v

pub none_marked : (t : List ℕ) → Marked t (replicate 256 false) 0
none_marked t = record {
  long = refl;
  levels = λ i h. absurd (omega arith);
  apart = λ i j h k e. absurd (omega arith);
  all = λ i h. absurd (omega arith);
  only = λ v h. absurd (false≢true (sym (unmarked 256 v) ∙ h));
}

-- level is the level of state s
module _ (t : List ℕ) (marks : List Bool) (s level : ℕ) (h : Marked t marks s) (is : level ≡ at t s) where
  -- the level is marked already
  pub marked_twice : s < length t → mark marks level ≡ true → Permutation t → ⊥
  marked_twice k e p =
      let (i, y, q) = h.only level e in
      let z = p.apart i s (omega arith) k (q ∙ is) in
      omega arith

pub all_marked : (t : List ℕ) (marks : List Bool) (s : ℕ) → Marked t marks s → length t ≤ s → Permutation t
all_marked t marks s h k = record {
  levels = at_each (λ v. v < length t) t (λ i l. h.levels i (omega arith));
  apart = λ i j a b e. h.apart i j (omega arith) (omega arith) e;
}

-- the two answers
pub permutation : (t : List ℕ) → Permutation t → (true ≡ is_permutation t) × (T true ↔ Permutation t)
permutation t p = (step (is_permutation t) (permutation_test t p), (λ h. p, λ h. tt))
  where
    step : (b : Bool) → T b → true ≡ b
    step true h = refl
    step false h = absurd h

pub no_permutation : (t : List ℕ) → (Permutation t → ⊥) → (false ≡ is_permutation t) × (T false ↔ Permutation t)
no_permutation t n = (step (is_permutation t) refl, (λ h. absurd h, λ p. absurd (n p)))
  where
    step : (b : Bool) → is_permutation t ≡ b → false ≡ b
    step true e = absurd (n (test_permutation t (subst T (sym e) tt)))
    step false e = refl

-- a level that is not below the table's length
pub level_beyond : (t : List ℕ) (s : ℕ) → s < length t → length t ≤ at t s → false ≡ is_permutation t
level_beyond t s k h = (no_permutation t (λ p. let y = each_at (λ v. v < length t) t p.levels s k in omega arith)).0
