-- Permutations: the test is the proposition, each level has exactly one state, and a level and its state lead to each other.
use mathlib.Core.Path.{◌≡◌, refl, sym, ap, ◌∙◌}
use mathlib.Core.Bool.{Bool, true, false, not, cond}
use mathlib.Core.List.{List, [], ◌∷◌}
use Prim.Native.Nat.{ℕ, zero, suc, ◌<◌}
use native.Mathlib.Decide.{dec_lt, ℕ_discrete}
use native.Mathlib.Omega.{arith}
use lib.Dec.{T, eqb, T_not, not_T}
use lib.ListN.{length}
use borrow.Author.Tests.{eqb-true, eqb-false}
use Rattle.definitions.specs.Words.{at, all_below}
use Rattle.definitions.specs.Labels.{Permutation, occurs, none_twice, is_permutation, level_of, state_of}
use Rattle.definitions.proofs.Tests.{and_left, and_right, and_both, eq_test, below_each, each_below}
use Rattle.word_laws.proofs.Cells.{each_at}

-- The test

occurs-at : (v : ℕ) (xs : List ℕ) → T (occurs v xs) → (j : ℕ) × (j < length xs) × (at xs j ≡ v)
occurs-at v [] h = absurd h
occurs-at v (x ∷ xs) h = step (eqb v x) refl h (λ (k : T (occurs v xs)). occurs-at v xs k)
  where
    step : (b : Bool) → eqb v x ≡ b → T (cond b true (occurs v xs))
        → (T (occurs v xs) → (j : ℕ) × (j < length xs) × (at xs j ≡ v)) → (j : ℕ) × (j < length (x ∷ xs)) × (at (x ∷ xs) j ≡ v)
    step true p k ih = (0, omega arith, sym (eqb-true v x p))
    step false p k ih = let (j, l, e) = ih k in (suc j, omega arith, e)

at-occurs : (v : ℕ) (xs : List ℕ) (j : ℕ) → j < length xs → at xs j ≡ v → T (occurs v xs)
at-occurs v [] j h e = absurd (omega arith)
at-occurs v (x ∷ xs) zero h e = step (eqb v x) (eq_test v x (sym e))
  where
    step : (b : Bool) → T b → T (cond b true (occurs v xs))
    step true k = tt
    step false k = absurd k
at-occurs v (x ∷ xs) (suc j) h e = step (eqb v x) (at-occurs v xs j (omega arith) e)
  where
    step : (b : Bool) → T (occurs v xs) → T (cond b true (occurs v xs))
    step true k = tt
    step false k = k

abbrev Apart : List ℕ → Type 0
Apart t = (i j : ℕ) → i < length t → j < length t → at t i ≡ at t j → i ≡ j

test_apart : (t : List ℕ) → T (none_twice t) → Apart t
test_apart [] h i j a b e = absurd (omega arith)
test_apart (x ∷ xs) h zero zero a b e = refl
test_apart (x ∷ xs) h zero (suc j) a b e =
    absurd (T_not (occurs x xs) (and_left (not (occurs x xs)) (none_twice xs) h) (at-occurs x xs j (omega arith) (sym e)))
test_apart (x ∷ xs) h (suc i) zero a b e =
    absurd (T_not (occurs x xs) (and_left (not (occurs x xs)) (none_twice xs) h) (at-occurs x xs i (omega arith) e))
test_apart (x ∷ xs) h (suc i) (suc j) a b e =
    ap suc (test_apart xs (and_right (not (occurs x xs)) (none_twice xs) h) i j (omega arith) (omega arith) e)

apart_test : (t : List ℕ) → Apart t → T (none_twice t)
apart_test [] h = tt
apart_test (x ∷ xs) h =
    and_both (not (occurs x xs)) (none_twice xs)
    (not_T (occurs x xs) (λ k. let (j, l, e) = occurs-at x xs k in let z = h 0 (suc j) (omega arith) (omega arith) (sym e) in omega arith))
    (apart_test xs (λ i j a b e. let z = h (suc i) (suc j) (omega arith) (omega arith) e in omega arith))

pub test_permutation : (t : List ℕ) → T (is_permutation t) → Permutation t
unfolding is_permutation
test_permutation t h = record {
  levels = below_each (length t) t (and_left (all_below (length t) t) (none_twice t) h);
  apart = test_apart t (and_right (all_below (length t) t) (none_twice t) h);
}

pub permutation_test : (t : List ℕ) → Permutation t → T (is_permutation t)
unfolding is_permutation
permutation_test t h =
    and_both (all_below (length t) t) (none_twice t) (each_below (length t) t h.levels) (apart_test t h.apart)

-- Each level has a state

-- n values below n, no two equal, are all the numbers below n
abbrev Below : ℕ → (ℕ → ℕ) → Type 0
Below n f = (i : ℕ) → i < n → f i < n

abbrev Different : ℕ → (ℕ → ℕ) → Type 0
Different n f = (i j : ℕ) → i < n → j < n → f i ≡ f j → i ≡ j

abbrev All : ℕ → (ℕ → ℕ) → Type 0
All n f = (l : ℕ) → l < n → (s : ℕ) × (s < n) × (f s ≡ l)

below_top : {v n : ℕ} → v < suc n → (v ≡ n → ⊥) → v < n
below_top {v} {n} a z = elim (dec_lt v n) as (λ d. v < n) [ yes y ↦ y | no y ↦ absurd (z (omega arith)) ]

-- one value more: where n itself is occurs the first n values, the last value is put in its place
module _ (n : ℕ) (f : ℕ → ℕ) (below : Below (suc n) f) (apart : Different (suc n) f) where
  abbrev moved : Bool → ℕ → ℕ
  moved b v = cond b (f n) v

  abbrev g : ℕ → ℕ
  g i = moved (eqb (f i) n) (f i)

  g_cases : (P : ℕ → Type 0) (i : ℕ) → (f i ≡ n → P (f n)) → ((f i ≡ n → ⊥) → P (f i)) → P (g i)
  g_cases P i a b = step (eqb (f i) n) refl
    where
      step : (t : Bool) → eqb (f i) n ≡ t → P (moved t (f i))
      step true e = a (eqb-true (f i) n e)
      step false e = b (eqb-false (f i) n e)

  last_apart : (i : ℕ) → i < n → f i ≡ f n → ⊥
  last_apart i k e = let z = apart i n (omega arith) (omega arith) e in omega arith

  g_below : Below n g
  g_below i k =
      g_cases (λ v. v < n) i (λ e. below_top (below n (omega arith)) (λ z. last_apart i k (e ∙ sym z)))
      (λ e. below_top (below i (omega arith)) e)

  g_apart : Different n g
  g_apart i j a b =
      g_cases (λ v. v ≡ g j → i ≡ j) i
      (λ e. g_cases (λ v. f n ≡ v → i ≡ j) j (λ u p. apart i j (omega arith) (omega arith) (e ∙ sym u))
      (λ u p. absurd (last_apart j b (sym p))))
      (λ e. g_cases (λ v. f i ≡ v → i ≡ j) j (λ u p. absurd (last_apart i a p)) (λ u p. apart i j (omega arith) (omega arith) p))

  one_more : All n g → All (suc n) f
  one_more found l h = by_last (ℕ_discrete l (f n)) (ℕ_discrete l n)
    where
      by_last : Dec (l ≡ f n) → Dec (l ≡ n) → (s : ℕ) × (s < suc n) × (f s ≡ l)
      by_last (yes e) d = (n, omega arith, sym e)
      by_last (no e) (yes t) =
          let (s, k, p) = found (f n) (below_top (below n (omega arith)) (λ z. e (t ∙ sym z))) in
          (s, omega arith, g_cases (λ v. v ≡ f n → f s ≡ l) s (λ u q. u ∙ sym t) (λ u q. absurd (last_apart s k q)) p)
      by_last (no e) (no t) =
          let (s, k, p) = found l (below_top h t) in
          (s, omega arith, g_cases (λ v. v ≡ l → f s ≡ l) s (λ u q. absurd (e (sym q))) (λ u q. q) p)

filled : (n : ℕ) (f : ℕ → ℕ) → Below n f → Different n f → All n f
filled zero f below apart l h = absurd (omega arith)
filled (suc n) f below apart l h =
    one_more n f below apart (filled n (g n f below apart) (g_below n f below apart) (g_apart n f below apart)) l h

module _ (t : List ℕ) (h : Permutation t) where
  pub has_state : (l : ℕ) → l < length t → (s : ℕ) × (s < length t) × (at t s ≡ l)
  has_state = filled (length t) (at t) (each_at (λ v. v < length t) t h.levels) h.apart

-- A level and its state

state_found : (t : List ℕ) (l j : ℕ) → j < length t → at t j ≡ l → (state_of t l < length t) × (level_of t (state_of t l) ≡ l)
state_found [] l j h e = absurd (omega arith)
state_found (x ∷ xs) l j h e = step (eqb x l) refl j h e (λ (k : ℕ). state_found xs l k)
  where
    step : (b : Bool) → eqb x l ≡ b → (k : ℕ) → k < length (x ∷ xs) → at (x ∷ xs) k ≡ l
        → ((i : ℕ) → i < length xs → at xs i ≡ l → (state_of xs l < length xs) × (at xs (state_of xs l) ≡ l))
        → (cond b 0 (suc (state_of xs l)) < length (x ∷ xs)) × (at (x ∷ xs) (cond b 0 (suc (state_of xs l))) ≡ l)
    step true p k a q ih = (omega arith, eqb-true x l p)
    step false p zero a q ih = absurd (eqb-false x l p q)
    step false p (suc k) a q ih = let (c, d) = ih k (omega arith) q in (omega arith, d)

module _ (t : List ℕ) (h : Permutation t) where
  pub state_below : (l : ℕ) → l < length t → state_of t l < length t
  state_below l k = let (s, b, e) = has_state t h l k in (state_found t l s b e).0

  pub level_of_state : (l : ℕ) → l < length t → level_of t (state_of t l) ≡ l
  level_of_state l k = let (s, b, e) = has_state t h l k in (state_found t l s b e).1

  pub state_of_level : (s : ℕ) → s < length t → state_of t (level_of t s) ≡ s
  state_of_level s k = let (b, e) = state_found t (at t s) s k refl in h.apart (state_of t (at t s)) s b k e

  pub level_below : (s : ℕ) → s < length t → level_of t s < length t
  level_below = each_at (λ v. v < length t) t h.levels
