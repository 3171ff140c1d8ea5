-- Lists whose entries are all different.
use mathlib.Core.Path.{◌≡◌, refl, sym, ap, ap₂, ◌∙◌}
use mathlib.Core.Logic.{◌⊎◌, inl, inr}
use mathlib.Core.Bool.{Bool, true, false, ◌&&◌, not}
use mathlib.Core.List.{List, [], ◌∷◌, map}
use Prim.Native.Nat.{ℕ, zero, suc, ◌+◌, ◌<◌, ◌≤◌}
use native.Mathlib.Nat.{eq-or-lt_of_le, add-zero, zero-add}
use native.Mathlib.Omega.{arith}
use lib.ListN.{length}
use borrow.Author.Tests.{eq-eqb, ne_eqb}
use Rattle.definitions.specs.Words.{at, up_from, same_word}
use Rattle.definitions.specs.Acceptance.{among, all_different}
use Rattle.acceptance.specs.Keys.{word_of}

pub true_not_false : {A : Type 0} (b : Bool) → b ≡ true → b ≡ false → A
true_not_false b p q = absurd (let z : ◌≡◌ {A = Bool} true false = sym p ∙ q in let y : ◌≡◌ {A = ℕ} 0 1 = cc in omega arith)

-- words numbered from a on, among which s is, or is not
module _ (f : ℕ → List ℕ) where
  among_some : (s : List ℕ) (a n i : ℕ) → a ≤ i → i < a + n → same_word s (f i) ≡ true → among s (map f (up_from a n)) ≡ true
  among_some s a zero i h g e = absurd (omega arith)
  among_some s a (suc n) i h g e =
      step (same_word s (f a)) refl (eq-or-lt_of_le h) (λ (l : a < i). among_some s (suc a) n i l (omega arith) e)
    where
      later : Bool
      later = among s (map f (up_from (suc a) n))

      step : (b : Bool) → same_word s (f a) ≡ b → (a ≡ i) ⊎ (a < i) → (a < i → later ≡ true) → elim b [ true ↦ true | false ↦ later ] ≡ true
      step true p d ih = refl
      step false p (inl q) ih = true_not_false (same_word s (f i)) e (ap (λ (k : ℕ). same_word s (f k)) (sym q) ∙ p)
      step false p (inr l) ih = ih l

  among_none : (s : List ℕ) (a n : ℕ) → ((i : ℕ) → a ≤ i → i < a + n → same_word s (f i) ≡ false) → among s (map f (up_from a n)) ≡ false
  among_none s a zero h = refl
  among_none s a (suc n) h =
      rw (among, h a (omega arith) (omega arith)) (among_none s (suc a) n (λ i l g. h i (omega arith) (omega arith)))

  clash_from : (a n j i : ℕ) → a ≤ j → j < i → i < a + n → same_word (f j) (f i) ≡ true → all_different (map f (up_from a n)) ≡ false
  clash_from a zero j i h l g e = absurd (omega arith)
  clash_from a (suc n) j i h l g e =
      step (among (f a) (map f (up_from (suc a) n))) refl (eq-or-lt_of_le h) (λ (k : a < j). clash_from (suc a) n j i k l (omega arith) e)
    where
      here : a ≡ j → among (f a) (map f (up_from (suc a) n)) ≡ true
      here q = among_some (f a) (suc a) n i (omega arith) (omega arith) (ap (λ (k : ℕ). same_word (f k) (f i)) q ∙ e)

      later : Bool
      later = all_different (map f (up_from (suc a) n))

      step : (b : Bool) → among (f a) (map f (up_from (suc a) n)) ≡ b → (a ≡ j) ⊎ (a < j) → (a < j → later ≡ false) → not b && later ≡ false
      step true p d ih = refl
      step false p (inl q) ih = true_not_false (among (f a) (map f (up_from (suc a) n))) (here q) p
      step false p (inr k) ih = ih k

  none_from : (a n : ℕ) → ((j i : ℕ) → a ≤ j → j < i → i < a + n → same_word (f j) (f i) ≡ false) → all_different (map f (up_from a n)) ≡ true
  none_from a zero h = refl
  none_from a (suc n) h =
      rw (among_none (f a) (suc a) n (λ i l g. h a i (omega arith) (omega arith) (omega arith)))
      (none_from (suc a) n (λ j i k l g. h j i (omega arith) l (omega arith)))

-- keys
module _ (keys : List ℕ) where
  -- the key numbered i is none of those before it
  abbrev pub New : ℕ → Type 0
  New i = (j : ℕ) → j < i → at keys j ≡ at keys i → ⊥

  abbrev word : ℕ → List ℕ
  word i = word_of (at keys i)

  as_numbered : (xs : List ℕ) (a : ℕ) → ((i : ℕ) → at xs i ≡ at keys (a + i)) → map word_of xs ≡ map word (up_from a (length xs))
  as_numbered [] a h = refl
  as_numbered (x ∷ xs) a h =
      ap₂ {C = List (List ℕ)} (λ k l. word_of k ∷ l) (h 0 ∙ ap (at keys) (add-zero a))
      (as_numbered xs (suc a) (λ i. h (suc i) ∙ ap (at keys) (let e : a + suc i ≡ suc a + i = omega arith in e)))

  numbered : map word_of keys ≡ map word (up_from 0 (length keys))
  numbered = as_numbered keys 0 (λ i. ap (at keys) (sym (zero-add i)))

  pub clash : (i : ℕ) → i < length keys → (j : ℕ) × (j < i) × (at keys j ≡ at keys i) → false ≡ all_different (map word_of keys)
  clash i h (j, l, s) =
      sym (ap all_different numbered ∙ clash_from word 0 (length keys) j i (omega arith) l (omega arith) (rw (eq-eqb (at keys j) (at keys i) s) refl))

  pub new_more : (i : ℕ) → New i → ((k : ℕ) → k < i → New k) → (k : ℕ) → k < i + 1 → New k
  new_more i q h k l = step (eq-or-lt_of_le (let g : suc k ≤ suc i = omega arith in g))
    where
      step : (suc k ≡ suc i) ⊎ (suc k < suc i) → New k
      step (inl d) = let s : k ≡ i = omega arith in rw s q
      step (inr d) = h k (omega arith)

  pub all_new : (i : ℕ) → length keys ≤ i → ((k : ℕ) → k < i → New k) → true ≡ all_different (map word_of keys)
  all_new i g h =
      sym (ap all_different numbered
      ∙ none_from word 0 (length keys) (λ j k a l b. rw (ne_eqb (at keys j) (at keys k) (h k (omega arith) j l)) refl))

-- each word of a list has a property
abbrev pub Each : (List ℕ → Type 0) → List (List ℕ) → Type 0
Each P [] = Unit {0}
Each P (e ∷ es) = P e × Each P es

-- two functions that tell the words of a list apart alike
module _ (f g : List ℕ → List ℕ) (P : List ℕ → Type 0) (alike : (a b : List ℕ) → P a → P b → same_word (f a) (f b) ≡ same_word (g a) (g b)) where
  among_alike : (a : List ℕ) (es : List (List ℕ)) → P a → Each P es → among (f a) (map f es) ≡ among (g a) (map g es)
  among_alike a [] h k = refl
  among_alike a (e ∷ es) h k =
      ap₂ {C = Bool} (λ x y. elim x [ true ↦ true | false ↦ y ]) (alike a e h k.0) (among_alike a es h k.1)

  pub different_alike : (es : List (List ℕ)) → Each P es → all_different (map f es) ≡ all_different (map g es)
  different_alike [] k = refl
  different_alike (e ∷ es) k =
      ap₂ {C = Bool} (λ x y. not x && y) (among_alike e es k.0 k.1) (different_alike es k.1)
