-- Places in a list: of the first entry that passes a test, and how many entries of an ascending list come before one.
use mathlib.Core.Path.{◌≡◌, refl, sym, ap, ◌∙◌, subst}
use mathlib.Core.Bool.{Bool, true, false, cond}
use mathlib.Core.Logic.{◌⊎◌, inl, inr, ◌↔◌}
use mathlib.Core.List.Memᴰ
use mathlib.Core.List.{List, [], ◌∷◌, Memᴰ}
use mathlib.Core.Option.{some, none-ne-some}
use Prim.Native.Nat.{ℕ, suc, ◌≤◌}
use native.Mathlib.Omega.{arith}
use lib.Dec.{T}
use lib.ListN.{length}
use Rattle.definitions.specs.Words.{same_word}
use Rattle.definitions.specs.Decoding.{first, pick_first}
use Rattle.definitions.specs.Tried.{place_of_first, Once}
use Rattle.definitions.proofs.Tests.{same_eq, same_refl}
use Rattle.word_laws.proofs.Lists.{first_some}
use Rattle.word_laws.proofs.PatternList.{Ascending}

-- where an entry passes, its place is in the list, and is the place of the first that passes
module _ (f : List ℕ → Bool) where
  pub place-low : (xs : List (List ℕ)) → 1 ≤ place_of_first f xs
  place-low [] = omega arith
  place-low (x ∷ xs) = step (f x)
    where
      step : (b : Bool) → 1 ≤ cond b 1 (suc (place_of_first f xs))
      step true = omega arith
      step false = omega arith

  pub place-high : (xs : List (List ℕ)) (a : List ℕ) → first f xs ≡ some a → place_of_first f xs ≤ length xs
  place-high [] a e = absurd (none-ne-some a e)
  place-high (x ∷ xs) a e = step (f x) e (place-high xs a)
    where
      step :
          (b : Bool) → pick_first b x (first f xs) ≡ some a → (first f xs ≡ some a → place_of_first f xs ≤ length xs)
          → cond b 1 (suc (place_of_first f xs)) ≤ suc (length xs)
      step true q ih = omega arith
      step false q ih = let h = ih q in omega arith

  pub place_found : (xs : List (List ℕ)) (a : List ℕ) → first f xs ≡ some a → place_of_first f xs ≡ place_of_first (same_word a) xs
  place_found [] a e = refl
  place_found (x ∷ xs) a e = step (f x) refl (same_word a x) refl e (place_found xs a)
    where
      step :
          (b : Bool) → f x ≡ b → (c : Bool) → same_word a x ≡ c → pick_first b x (first f xs) ≡ some a
          → (first f xs ≡ some a → place_of_first f xs ≡ place_of_first (same_word a) xs)
          → cond b 1 (suc (place_of_first f xs)) ≡ cond c 1 (suc (place_of_first (same_word a) xs))
      step true p true r q ih = refl
      step true p false r q ih = let s : x ≡ a = cc in absurd (subst T (ap (same_word a) (sym s) ∙ r) (same_refl a))
      step false p true r q ih = absurd (subst T (ap f (same_eq a x (subst T (sym r) tt)) ∙ p) (first_some f xs a q).1)
      step false p false r q ih = ap suc (ih q)

-- the entries before e in a list that ascends by R, each once, and e's place after them
pub record Earlier (R : List ℕ → List ℕ → Type 0) (xs : List (List ℕ)) (e : List ℕ) : Type 0 where
  pub list : List (List ℕ)
  pub exactly : (f : List ℕ) → Memᴰ f list ↔ (Memᴰ f xs × R f e)
  pub once : Once list
  pub place : place_of_first (same_word e) xs ≡ suc (length list)

module _ (R : List ℕ → List ℕ → Type 0) (one_way : (a b : List ℕ) → R a b → R b a → ⊥) where
  pub earlier : (xs : List (List ℕ)) → Ascending R xs → (e : List ℕ) → Memᴰ e xs → Earlier R xs e
  earlier [] h e m = absurd (Memᴰ.not-nil m)
  earlier (x ∷ xs) h e m = step (same_word e x) refl (Memᴰ.cases_cons m) (earlier xs h.1 e)
    where
      -- nothing is before the first
      least : (f : List ℕ) → Memᴰ f (x ∷ xs) → R f x → ⊥
      least f k r = elim (Memᴰ.cases_cons k) as (λ d. ⊥)
          [ inl s ↦ (let g = subst (λ (z : List ℕ). R z x) s r in one_way x x g g) | inr t ↦ one_way f x r (h.0 f t) ]

      later : (s : Earlier R xs e) → R x e → (f : List ℕ) → Memᴰ f (x ∷ s.list) ↔ (Memᴰ f (x ∷ xs) × R f e)
      later s r f = (
        (λ k. elim (Memᴰ.cases_cons k) as (λ d. Memᴰ f (x ∷ xs) × R f e) [
          | inl q ↦ (Memᴰ.head q, subst (λ (z : List ℕ). R z e) (sym q) r)
          | inr t ↦ let (a, b) = (s.exactly f).0 t in (Memᴰ.tail a, b)
        ]),
        (λ k. elim (Memᴰ.cases_cons k.0) as (λ d. Memᴰ f (x ∷ s.list))
            [ inl q ↦ Memᴰ.head q | inr t ↦ Memᴰ.tail ((s.exactly f).1 (t, k.1)) ]),
      )

      after_first : Earlier R xs e → Memᴰ e xs → same_word e x ≡ false → Earlier R (x ∷ xs) e
      after_first s k p = record {
        list = x ∷ s.list;
        exactly = later s (h.0 e k);
        once = ((λ t. let m = ((s.exactly x).0 t).0 in let r = h.0 x m in one_way x x r r), s.once);
        place = ap (λ (b : Bool). cond b 1 (suc (place_of_first (same_word e) xs))) p ∙ ap suc s.place;
      }

      step : (b : Bool) → same_word e x ≡ b → (e ≡ x) ⊎ Memᴰ e xs → (Memᴰ e xs → Earlier R xs e) → Earlier R (x ∷ xs) e
      step true p d ih = record {
        list = [];
        exactly = λ f. (
          (λ k. absurd (Memᴰ.not-nil k)),
          (λ k. absurd (least f k.0 (subst (R f) (same_eq e x (subst T (sym p) tt)) k.1))),
        );
        once = tt;
        place = ap (λ (b : Bool). cond b 1 (suc (place_of_first (same_word e) xs))) p;
      }
      step false p (inl s) ih = absurd (subst T (ap (same_word e) s ∙ p) (same_refl e))
      step false p (inr k) ih = after_first (ih k) k p

-- a list without repetition is no longer than one that has all its entries
abbrev without : List ℕ → List (List ℕ) → List (List ℕ)
without x [] = []
without x (y ∷ ys) = cond (same_word x y) ys (y ∷ without x ys)

length_without : (x : List ℕ) (ys : List (List ℕ)) → Memᴰ x ys → length ys ≡ suc (length (without x ys))
length_without x [] m = absurd (Memᴰ.not-nil m)
length_without x (y ∷ ys) m = step (same_word x y) refl (Memᴰ.cases_cons m) (length_without x ys)
  where
    step :
        (b : Bool) → same_word x y ≡ b → (x ≡ y) ⊎ Memᴰ x ys → (Memᴰ x ys → length ys ≡ suc (length (without x ys)))
        → suc (length ys) ≡ suc (length (cond b ys (y ∷ without x ys)))
    step true p d ih = refl
    step false p (inl s) ih = absurd (subst T (ap (same_word x) s ∙ p) (same_refl x))
    step false p (inr k) ih = ap suc (ih k)

mem_without : (x z : List ℕ) → (z ≡ x → ⊥) → (ys : List (List ℕ)) → Memᴰ z ys → Memᴰ z (without x ys)
mem_without x z n [] m = absurd (Memᴰ.not-nil m)
mem_without x z n (y ∷ ys) m = step (same_word x y) refl (Memᴰ.cases_cons m) (mem_without x z n ys)
  where
    step :
        (b : Bool) → same_word x y ≡ b → (z ≡ y) ⊎ Memᴰ z ys → (Memᴰ z ys → Memᴰ z (without x ys))
        → Memᴰ z (cond b ys (y ∷ without x ys))
    step true p (inl s) ih = absurd (n (s ∙ sym (same_eq x y (subst T (sym p) tt))))
    step true p (inr k) ih = k
    step false p (inl s) ih = Memᴰ.head s
    step false p (inr k) ih = Memᴰ.tail (ih k)

pub once_shorter : (xs ys : List (List ℕ)) → Once xs → ((z : List ℕ) → Memᴰ z xs → Memᴰ z ys) → length xs ≤ length ys
once_shorter [] ys u h = omega arith
once_shorter (x ∷ xs) ys u h =
    let e = length_without x ys (h x (Memᴰ.head refl)) in
    let l = once_shorter xs (without x ys) u.1 (λ z m. mem_without x z (λ s. u.0 (Memᴰ.cast (sym s) m)) ys (h z (Memᴰ.tail m))) in
    omega arith
