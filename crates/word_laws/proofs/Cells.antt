-- Words cell by cell.
use mathlib.Core.Path.{◌≡◌, refl, sym, ap, ap₂, ◌∙◌, subst}
use mathlib.Core.Bool.{Bool, true, false, ◌&&◌}
use mathlib.Core.Logic.{inl, inr}
use mathlib.Core.List.Memᴰ
use mathlib.Core.List.{List, [], ◌∷◌, map, Memᴰ}
use Prim.Native.Nat.{ℕ, zero, suc, ◌+◌, ◌≤◌, ◌<◌}
use native.Mathlib.Nat.{eq-or-lt_of_le, add-zero, suc-add, add-suc}
use native.Mathlib.Omega.{arith}
use lib.Dec.{T, eqb, eqb→eq}
use lib.ListN.{length, set, replicate, take, drop, get_or-eq_default}
use borrow.Author.Tests.{eqb-false}
use Rattle.definitions.specs.Words.{at, sum_to, up_from, map2, all_zero, EachCell, EachPair}
use Rattle.definitions.proofs.Tests.{and_left, and_right, and_both, eq_test}

pub at-past : (x : List ℕ) (j : ℕ) → length x ≤ j → at x j ≡ 0
at-past x j h = get_or-eq_default x 0 h

pub at_map : (f : ℕ → ℕ) (x : List ℕ) (j : ℕ) → j < length x → at (map f x) j ≡ f (at x j)
at_map f [] j h = absurd (omega arith)
at_map f (a ∷ x) zero h = refl
at_map f (a ∷ x) (suc j) h = at_map f x j (omega arith)

pub at-map2 : (f : ℕ → ℕ → ℕ) (x y : List ℕ) (j : ℕ) → j < length x → j < length y → at (map2 f x y) j ≡ f (at x j) (at y j)
at-map2 f [] y j h g = absurd (omega arith)
at-map2 f (a ∷ x) [] j h g = absurd (omega arith)
at-map2 f (a ∷ x) (b ∷ y) zero h g = refl
at-map2 f (a ∷ x) (b ∷ y) (suc j) h g = at-map2 f x y j (omega arith) (omega arith)

pub length-map2 : (f : ℕ → ℕ → ℕ) (x y : List ℕ) → length x ≡ length y → length (map2 f x y) ≡ length x
length-map2 f [] y h = refl
length-map2 f (a ∷ x) [] h = absurd (omega arith)
length-map2 f (a ∷ x) (b ∷ y) h = ap suc (length-map2 f x y (omega arith))

module _ (P : ℕ → Type 0) where
  pub each_at : (x : List ℕ) → EachCell P x → (j : ℕ) → j < length x → P (at x j)
  each_at [] h j g = absurd (omega arith)
  each_at (a ∷ x) h zero g = h.0
  each_at (a ∷ x) h (suc j) g = each_at x h.1 j (omega arith)

  pub at_each : (x : List ℕ) → ((j : ℕ) → j < length x → P (at x j)) → EachCell P x
  at_each [] h = tt
  at_each (a ∷ x) h = (h 0 (omega arith), at_each x (λ j g. h (suc j) (omega arith)))

  pub each_take : (k : ℕ) (x : List ℕ) → EachCell P x → EachCell P (take k x)
  each_take zero x h = tt
  each_take (suc k) [] h = tt
  each_take (suc k) (a ∷ x) h = (h.0, each_take k x h.1)

  pub each-drop : (k : ℕ) (x : List ℕ) → EachCell P x → EachCell P (drop k x)
  each-drop zero x h = h
  each-drop (suc k) [] h = tt
  each-drop (suc k) (a ∷ x) h = each-drop k x h.1

  pub each_set : (x : List ℕ) (i v : ℕ) → EachCell P x → P v → EachCell P (set x i v)
  each_set [] i v h g = tt
  each_set (a ∷ x) zero v h g = (g, h.1)
  each_set (a ∷ x) (suc i) v h g = (h.0, each_set x i v h.1 g)

  pub each_same : (v : ℕ) → P v → (k : ℕ) → EachCell P (replicate k v)
  each_same v h zero = tt
  each_same v h (suc k) = (h, each_same v h k)

  -- past the last cell, too, where 0 will do
  pub each_all : P 0 → (x : List ℕ) → EachCell P x → (i : ℕ) → P (at x i)
  each_all z [] h i = z
  each_all z (a ∷ x) h zero = h.0
  each_all z (a ∷ x) h (suc i) = each_all z x h.1 i

pub each_map : {P Q : ℕ → Type 0} → ((v : ℕ) → P v → Q v) → (x : List ℕ) → EachCell P x → EachCell Q x
each_map f [] h = tt
each_map f (v ∷ x) h = (f v h.0, each_map f x h.1)

-- two words cell by cell
module _ (R : ℕ → ℕ → Type 0) where
  pub pair_at : (x y : List ℕ) → EachPair R x y → (j : ℕ) → j < length x → R (at x j) (at y j)
  pair_at [] [] h j g = absurd (omega arith)
  pair_at [] (b ∷ y) h j g = absurd h
  pair_at (a ∷ x) [] h j g = absurd h
  pair_at (a ∷ x) (b ∷ y) h zero g = h.0
  pair_at (a ∷ x) (b ∷ y) h (suc j) g = pair_at x y h.1 j (omega arith)

  pub at_pair : (x y : List ℕ) → length x ≡ length y → ((j : ℕ) → j < length x → R (at x j) (at y j)) → EachPair R x y
  at_pair [] [] l h = tt
  at_pair [] (b ∷ y) l h = absurd (omega arith)
  at_pair (a ∷ x) [] l h = absurd (omega arith)
  at_pair (a ∷ x) (b ∷ y) l h = (h 0 (omega arith), at_pair x y (omega arith) (λ j g. h (suc j) (omega arith)))

pub sum_same : (w : ℕ) (f g : ℕ → ℕ) → ((j : ℕ) → j < w → f j ≡ g j) → sum_to w f ≡ sum_to w g
sum_same zero f g h = refl
sum_same (suc w) f g h = ap₂ ◌+◌ (sum_same w f g (λ j k. h j (omega arith))) (h w (omega arith))

-- the numbers from a on
pub length-up_from : (a k : ℕ) → length (up_from a k) ≡ k
length-up_from a zero = refl
length-up_from a (suc k) = ap suc (length-up_from (suc a) k)

pub at-up_from : (f : ℕ → ℕ) (a r k : ℕ) → k < r → at (map f (up_from a r)) k ≡ f (a + k)
at-up_from f a zero k h = absurd (omega arith)
at-up_from f a (suc r) zero h = ap f (sym (add-zero a))
at-up_from f a (suc r) (suc k) h = at-up_from f (suc a) r k (omega arith) ∙ ap f (suc-add a k ∙ sym (add-suc a k))

pub up_from_bounds : (a k v : ℕ) → Memᴰ v (up_from a k) → (a ≤ v) × (v < a + k)
up_from_bounds a zero v m = absurd (Memᴰ.not-nil m)
up_from_bounds a (suc k) v m = elim (Memᴰ.cases_cons m) as (λ d. (a ≤ v) × (v < a + suc k))
    [ inl p ↦ (omega arith, omega arith) | inr h ↦ (let (b, c) = up_from_bounds (suc a) k v h in (omega arith, omega arith)) ]

pub up_from_mem : (a k v : ℕ) → a ≤ v → v < a + k → Memᴰ v (up_from a k)
up_from_mem a zero v h g = absurd (omega arith)
up_from_mem a (suc k) v h g = elim (eq-or-lt_of_le h) as (λ d. Memᴰ v (up_from a (suc k)))
    [ inl p ↦ Memᴰ.head (sym p) | inr b ↦ Memᴰ.tail (up_from_mem (suc a) k v b (omega arith)) ]

-- functions at each member of a list
pub map_same : (f g : ℕ → ℕ) (ks : List ℕ) → ((k : ℕ) → Memᴰ k ks → f k ≡ g k) → map f ks ≡ map g ks
map_same f g [] h = refl
map_same f g (k ∷ ks) h =
    ap₂ {C = List ℕ} (λ a b. a ∷ b) (h k (Memᴰ.head refl)) (map_same f g ks (λ i m. h i (Memᴰ.tail m)))

pub same_map : (f g : ℕ → ℕ) (ks : List ℕ) → map f ks ≡ map g ks → (k : ℕ) → Memᴰ k ks → f k ≡ g k
same_map f g [] e k m = absurd (Memᴰ.not-nil m)
same_map f g (x ∷ ks) e k m = elim (Memᴰ.cases_cons m) as (λ d. f k ≡ g k)
    [ inl p ↦ (let s : f x ≡ g x = cc in ap f p ∙ s ∙ sym (ap g p)) | inr i ↦ same_map f g ks (let s : map f ks ≡ map g ks = cc in s) k i ]

pub zero-map : (f : ℕ → ℕ) (ks : List ℕ) → T (all_zero (map f ks)) → (k : ℕ) → Memᴰ k ks → f k ≡ 0
zero-map f [] h k m = absurd (Memᴰ.not-nil m)
zero-map f (x ∷ ks) h k m = elim (Memᴰ.cases_cons m) as (λ d. f k ≡ 0) [
  | inl p ↦ ap f p ∙ eqb→eq (f x) 0 (and_left (eqb (f x) 0) (all_zero (map f ks)) h)
  | inr i ↦ zero-map f ks (and_right (eqb (f x) 0) (all_zero (map f ks)) h) k i
]

pub map-zero : (f : ℕ → ℕ) (ks : List ℕ) → ((k : ℕ) → Memᴰ k ks → f k ≡ 0) → T (all_zero (map f ks))
map-zero f [] h = tt
map-zero f (x ∷ ks) h =
    and_both (eqb (f x) 0) (all_zero (map f ks)) (eq_test (f x) 0 (h x (Memᴰ.head refl)))
    (map-zero f ks (λ i m. h i (Memᴰ.tail m)))

-- a function that is not 0 at each
abbrev pub SomeNot0 : (ℕ → ℕ) → List ℕ → Type 0
SomeNot0 f ks = (k : ℕ) × Memᴰ k ks × (f k ≡ 0 → ⊥)

pub some_map : (f : ℕ → ℕ) (ks : List ℕ) → all_zero (map f ks) ≡ false → SomeNot0 f ks
some_map f [] e = absurd (subst T e tt)
some_map f (x ∷ ks) e = step (eqb (f x) 0) refl e (λ g. some_map f ks g)
  where
    step : (t : Bool) → eqb (f x) 0 ≡ t → (t && all_zero (map f ks)) ≡ false → (all_zero (map f ks) ≡ false → SomeNot0 f ks) → SomeNot0 f (x ∷ ks)
    step true h g rest = let (k, m, other) = rest g in (k, Memᴰ.tail m, other)
    step false h g rest = (x, Memᴰ.head refl, eqb-false (f x) 0 h)
