-- A word y, a word c that it is near (nowhere above y, lower by at most l), and their difference; cell by cell.
use mathlib.Core.Path.{◌≡◌, refl, sym, ap, ap₂, ◌∙◌}
use mathlib.Core.Bool.{Bool, true, false, cond}
use mathlib.Core.List.{List, [], ◌∷◌}
use Prim.Native.Nat.{ℕ, zero, suc, ◌+◌, ◌-◌, ◌≤◌}
use native.Mathlib.Nat.{zero-add}
use native.Mathlib.Omega.{arith}
use lib.Dec.{eqb}
use lib.ListN.{length}
use borrow.Author.Tests.{eqb-false, eqb-true}
use Rattle.definitions.specs.Words.{at, subtract, weight, distance, EachCell, EachPair}

-- one cell: it counts where it differs
step_count : (v : ℕ) (e : List ℕ) (b : Bool) → (b ≡ true → v ≡ 0) → (b ≡ false → v ≡ 0 → ⊥) → weight (v ∷ e) ≡ cond b 0 1 + weight e
step_count zero e true f g = sym (zero-add (weight e))
step_count zero e false f g = absurd (g refl refl)
step_count (suc v) e true f g = absurd (omega (arith, f refl))
step_count (suc v) e false f g = omega arith

-- a word is at distance 0 from itself
pub distance_self : (x : List ℕ) → distance x x ≡ 0
distance_self [] = refl
distance_self (a ∷ x) = ap₂ ◌+◌ (here (eqb a a) refl) (distance_self x)
  where
    here : (b : Bool) → eqb a a ≡ b → ◌≡◌ {A = ℕ} (cond b 0 1) 0
    here true e = refl
    here false e = absurd (eqb-false a a e refl)

abbrev pub Near : ℕ → List ℕ → List ℕ → Type 0
Near l y c = EachPair (λ a b. (b ≤ a) × (a ≤ b + l)) y c

module _ (l : ℕ) where
  pub subtract-length : (y c : List ℕ) → Near l y c → length (subtract y c) ≡ length y
  subtract-length [] [] h = refl
  subtract-length [] (c ∷ cs) h = absurd h
  subtract-length (y ∷ ys) [] h = absurd h
  subtract-length (y ∷ ys) (c ∷ cs) h = ap suc (subtract-length ys cs h.1)

  pub subtract-each : (y c : List ℕ) → Near l y c → EachCell (λ v. v ≤ l) (subtract y c)
  subtract-each [] [] h = tt
  subtract-each [] (c ∷ cs) h = absurd h
  subtract-each (y ∷ ys) [] h = absurd h
  subtract-each (y ∷ ys) (c ∷ cs) h = (omega arith, subtract-each ys cs h.1)

  pub subtract-weight : (y c : List ℕ) → Near l y c → weight (subtract y c) ≡ distance c y
  subtract-weight [] [] h = refl
  subtract-weight [] (c ∷ cs) h = absurd h
  subtract-weight (y ∷ ys) [] h = absurd h
  subtract-weight (y ∷ ys) (c ∷ cs) h =
      step_count (y - c) (subtract ys cs) (eqb c y) (λ e. omega (arith, eqb-true c y e)) (λ e z. eqb-false c y e (omega arith))
      ∙ ap (λ (k : ℕ). cond (eqb c y) 0 1 + k) (subtract-weight ys cs h.1)

  pub subtract-subtract : (y c : List ℕ) → Near l y c → subtract y (subtract y c) ≡ c
  subtract-subtract [] [] h = refl
  subtract-subtract [] (c ∷ cs) h = absurd h
  subtract-subtract (y ∷ ys) [] h = absurd h
  subtract-subtract (y ∷ ys) (c ∷ cs) h = ap₂ {C = List ℕ} (λ a b. a ∷ b) (omega arith) (subtract-subtract ys cs h.1)

  pub subtract-above : (y c : List ℕ) → Near l y c → EachPair (λ a b. b ≤ a) y (subtract y c)
  subtract-above [] [] h = tt
  subtract-above [] (c ∷ cs) h = absurd h
  subtract-above (y ∷ ys) [] h = absurd h
  subtract-above (y ∷ ys) (c ∷ cs) h = (omega arith, subtract-above ys cs h.1)

  pub subtract-sum : (y c : List ℕ) → Near l y c → (j : ℕ) → at y j ≡ at c j + at (subtract y c) j
  subtract-sum [] [] h j = refl
  subtract-sum [] (c ∷ cs) h j = absurd h
  subtract-sum (y ∷ ys) [] h j = absurd h
  subtract-sum (y ∷ ys) (c ∷ cs) h zero = omega arith
  subtract-sum (y ∷ ys) (c ∷ cs) h (suc j) = subtract-sum ys cs h.1 j

  -- from a pattern that is nowhere above the word
  pub subtract_near : (y e : List ℕ) → EachPair (λ a b. b ≤ a) y e → EachCell (λ v. v ≤ l) e → Near l y (subtract y e)
  subtract_near [] [] h g = tt
  subtract_near [] (e ∷ es) h g = absurd h
  subtract_near (y ∷ ys) [] h g = absurd h
  subtract_near (y ∷ ys) (e ∷ es) h g = ((omega arith, omega arith), subtract_near ys es h.1 g.1)

  -- a word is near itself
  pub near_self : (y : List ℕ) → Near l y y
  near_self [] = tt
  near_self (a ∷ y) = ((omega arith, omega arith), near_self y)

pub subtract-back : (y e : List ℕ) → EachPair (λ a b. b ≤ a) y e → subtract y (subtract y e) ≡ e
subtract-back [] [] h = refl
subtract-back [] (c ∷ cs) h = absurd h
subtract-back (y ∷ ys) [] h = absurd h
subtract-back (y ∷ ys) (c ∷ cs) h = ap₂ {C = List ℕ} (λ a b. a ∷ b) (omega arith) (subtract-back ys cs h.1)
