-- The first entry that passes a test, and tests of all entries; lists whose entries are all different.
use mathlib.Core.Path.{◌≡◌, refl, sym, ap, ◌∙◌, subst}
use mathlib.Core.Bool.{Bool, true, false, not}
use mathlib.Core.Logic.{◌⊎◌, inl, inr}
use mathlib.Core.List.Memᴰ
use mathlib.Core.List.{List, [], ◌∷◌, map, Memᴰ}
use mathlib.Core.Option.{none, some, none-ne-some, some-ne-none}
use Prim.Native.Nat.{ℕ, ◌<◌}
use native.Mathlib.Nat.{zero-add}
use native.Mathlib.Omega.{arith}
use lib.Dec.{T, T_not, not_T}
use lib.ListN.{length}
use Rattle.std.specs.List.{list_all, enumerate_from}
use Rattle.std.proofs.lemmas.List.Elements.{All-get_or}
use Rattle.std.proofs.lemmas.List.FromFn.{length-enumerate_from, get_or-enumerate_from}
use Rattle.std.proofs.lemmas.List.Sums.{AllPass-from_list_all}
use Rattle.definitions.specs.Words.{at, same_word}
use Rattle.definitions.specs.Decoding.{first, pick_first}
use Rattle.definitions.specs.Acceptance.{among, all_different}
use Rattle.definitions.specs.Tried.{Once}
use Rattle.definitions.proofs.Tests.{and_left, and_right, and_both, same_eq, same_refl}

-- the first that passes is in the list and passes; where there is none, none passes
module _ {A : Type 0} (f : A → Bool) where
  pub first_some : (xs : List A) (a : A) → first f xs ≡ some a → Memᴰ a xs × T (f a)
  first_some [] a e = absurd (none-ne-some a e)
  first_some (x ∷ xs) a e = step (f x) refl e (λ (h : first f xs ≡ some a). first_some xs a h)
    where
      step : (b : Bool) → f x ≡ b → pick_first b x (first f xs) ≡ some a → (first f xs ≡ some a → Memᴰ a xs × T (f a)) → Memᴰ a (x ∷ xs) × T (f a)
      step true p q ih = let s : x ≡ a = cc in (Memᴰ.head (sym s), subst T (sym p ∙ ap f s) tt)
      step false p q ih = let (m, h) = ih q in (Memᴰ.tail m, h)

  pub first_none : (xs : List A) → first f xs ≡ none → (a : A) → Memᴰ a xs → T (f a) → ⊥
  first_none [] e a m h = Memᴰ.not-nil m
  first_none (x ∷ xs) e a m h =
      step (f x) refl e (Memᴰ.cases_cons m) (λ (q : first f xs ≡ none) (k : Memᴰ a xs). first_none xs q a k h)
    where
      step : (b : Bool) → f x ≡ b → pick_first b x (first f xs) ≡ none → (a ≡ x) ⊎ Memᴰ a xs → (first f xs ≡ none → Memᴰ a xs → ⊥) → ⊥
      step true p q d ih = some-ne-none x q
      step false p q (inl s) ih = subst T (ap f s ∙ p) h
      step false p q (inr k) ih = ih q k

-- whether a word is in a list, as a test
pub among_mem : (s : List ℕ) (xs : List (List ℕ)) → Memᴰ s xs → T (among s xs)
among_mem s [] m = absurd (Memᴰ.not-nil m)
among_mem s (x ∷ xs) m = step (same_word s x) refl (Memᴰ.cases_cons m) (λ (k : Memᴰ s xs). among_mem s xs k)
  where
    step : (b : Bool) → same_word s x ≡ b → (s ≡ x) ⊎ Memᴰ s xs → (Memᴰ s xs → T (among s xs)) → T (elim b [ true ↦ true | false ↦ among s xs ])
    step true p d ih = tt
    step false p (inl e) ih = absurd (subst T (ap (same_word s) e ∙ p) (same_refl s))
    step false p (inr k) ih = ih k

pub mem_among : (s : List ℕ) (xs : List (List ℕ)) → T (among s xs) → Memᴰ s xs
mem_among s [] h = absurd h
mem_among s (x ∷ xs) h = step (same_word s x) refl h (λ (k : T (among s xs)). mem_among s xs k)
  where
    step : (b : Bool) → same_word s x ≡ b → T (elim b [ true ↦ true | false ↦ among s xs ]) → (T (among s xs) → Memᴰ s xs) → Memᴰ s (x ∷ xs)
    step true p k ih = Memᴰ.head (same_eq s x (subst T (sym p) tt))
    step false p k ih = Memᴰ.tail (ih k)

-- the images of a list's entries are all different exactly when the function tells the entries apart
module _ (f : List ℕ → List ℕ) where
  map_mem : {a : List ℕ} {xs : List (List ℕ)} → Memᴰ a xs → Memᴰ (f a) (map f xs)
  map_mem (Memᴰ.head p) = Memᴰ.head (ap f p)
  map_mem (Memᴰ.tail m) = Memᴰ.tail (map_mem m)

  mem_map : (xs : List (List ℕ)) {s : List ℕ} → Memᴰ s (map f xs) → (a : List ℕ) × Memᴰ a xs × (s ≡ f a)
  mem_map [] m = absurd (Memᴰ.not-nil m)
  mem_map (x ∷ xs) {s} m = elim (Memᴰ.cases_cons m) as (λ d. (a : List ℕ) × Memᴰ a (x ∷ xs) × (s ≡ f a))
      [ inl p ↦ (x, Memᴰ.head refl, p) | inr k ↦ let (a, h, p) = mem_map xs k in (a, Memᴰ.tail h, p) ]

  pub different_apart : (xs : List (List ℕ)) → T (all_different (map f xs)) → (a b : List ℕ) → Memᴰ a xs → Memᴰ b xs → f a ≡ f b → a ≡ b
  different_apart [] h a b ma mb e = absurd (Memᴰ.not-nil ma)
  different_apart (x ∷ xs) h a b ma mb e =
      step (Memᴰ.cases_cons ma) (Memᴰ.cases_cons mb)
      (λ (k : Memᴰ a xs) (m : Memᴰ b xs). different_apart xs (and_right (not (among (f x) (map f xs))) (all_different (map f xs)) h) a b k m e)
    where
      apart : (c : List ℕ) → Memᴰ c xs → f x ≡ f c → ⊥
      apart c m p =
          T_not (among (f x) (map f xs)) (and_left (not (among (f x) (map f xs))) (all_different (map f xs)) h)
          (among_mem (f x) (map f xs) (Memᴰ.cast p (map_mem m)))

      step : (a ≡ x) ⊎ Memᴰ a xs → (b ≡ x) ⊎ Memᴰ b xs → (Memᴰ a xs → Memᴰ b xs → a ≡ b) → a ≡ b
      step (inl p) (inl q) ih = p ∙ sym q
      step (inl p) (inr k) ih = absurd (apart b k (sym (ap f p) ∙ e))
      step (inr k) (inl q) ih = absurd (apart a k (sym (ap f q) ∙ sym e))
      step (inr k) (inr m) ih = ih k m

  pub apart_different : (xs : List (List ℕ)) → Once xs → ((a b : List ℕ) → Memᴰ a xs → Memᴰ b xs → f a ≡ f b → a ≡ b) → T (all_different (map f xs))
  apart_different [] u h = tt
  apart_different (x ∷ xs) u h =
      and_both (not (among (f x) (map f xs))) (all_different (map f xs)) (not_T (among (f x) (map f xs)) twice)
      (apart_different xs u.1 (λ a b ma mb e. h a b (Memᴰ.tail ma) (Memᴰ.tail mb) e))
    where
      twice : T (among (f x) (map f xs)) → ⊥
      twice k =
          let (a, m, p) = mem_map xs (mem_among (f x) (map f xs) k) in
          u.0 (Memᴰ.cast (h x a (Memᴰ.head refl) (Memᴰ.tail m) p) m)

-- what a test of all entries with their places says of each
pub entry_passes :
    (test : ℕ × ℕ → Bool) (xs : List ℕ) → list_all test (enumerate_from 0 xs) ≡ true → (i : ℕ) → i < length xs → test (i, at xs i) ≡ true
entry_passes test xs h i l =
    let places = enumerate_from 0 xs in
    let long : i < length places = omega (arith, length-enumerate_from 0 xs) in
    subst (λ (k : ℕ × ℕ). test k ≡ true) (get_or-enumerate_from 0 xs i (0, 0) l ∙ ap (λ (k : ℕ). (k, at xs i)) (zero-add i))
    (All-get_or (λ k. test k ≡ true) places i (0, 0) long (AllPass-from_list_all test places h))
