-- Choices of cells with magnitudes, as words.
use mathlib.Core.Path.{◌≡◌, refl, sym, ap, ap₂, ◌∙◌, subst}
use mathlib.Core.Logic.{◌⊎◌, inl, inr}
use mathlib.Core.Bool.{Bool, true, false, cond}
use mathlib.Core.List.{List, [], ◌∷◌, ◌++◌, map}
use Prim.Native.Nat.{ℕ, zero, suc, ◌+◌, ◌-◌, ◌≤◌, ◌<◌}
use native.Mathlib.Nat.{add-zero, zero-add, suc-add, add-suc}
use native.Mathlib.Numerals.{add-one}
use native.Mathlib.Omega.{arith}
use lib.Dec.{eqb}
use lib.ListN.{length, length-map}
use Rattle.std.proofs.Common.{get_or}
use borrow.Author.Tests.{eq-eqb, ne_eqb, eqb-true}
use Rattle.definitions.specs.Words.{at, up_from}
use Rattle.word_laws.proofs.Cells.{at-past, at-up_from, length-up_from}
use Rattle.candidate_patterns.specs.declared.Rise.{Rise}
use Rattle.candidate_patterns.specs.declared.Risen.{Risen}
use Rattle.candidate_patterns.specs.Candidates.{magnitude_of, or_else, magnitude_in, magnitude_at, word_of, no_rise, unrisen, rise_at, added, Chosen}

pub of_here : (c g i : ℕ) → c ≡ i → magnitude_of c g i ≡ g
of_here c g i e = simp (eq-eqb c i e)

pub of_other : (c g i : ℕ) → (c ≡ i → ⊥) → magnitude_of c g i ≡ 0
of_other c g i e = simp (ne_eqb c i e)

pub of_none : (c i : ℕ) → magnitude_of c 0 i ≡ 0
of_none c i = by (eqb c i)
  where
    by : (b : Bool) → ◌≡◌ {A = ℕ} (cond b 0 0) 0
    by true = refl
    by false = refl

pub of_more : (c g i : ℕ) → magnitude_of c (g + 1) i ≡ magnitude_of c g i + magnitude_of c 1 i
of_more c g i = by (eqb c i)
  where
    by : (b : Bool) → cond b (g + 1) 0 ≡ cond b g 0 + cond b 1 0
    by true = refl
    by false = refl

or_none : (a : ℕ) → or_else a 0 ≡ a
or_none zero = refl
or_none (suc a) = refl

-- three rises, one after the other
magnitude_of_three :
    (rs : List Rise) → length rs ≡ 3 → (i : ℕ)
    → magnitude_in rs i ≡ or_else (magnitude_of (get_or rs 0 no_rise).cell (get_or rs 0 no_rise).magnitude i)
    (or_else (magnitude_of (get_or rs 1 no_rise).cell (get_or rs 1 no_rise).magnitude i)
    (or_else (magnitude_of (get_or rs 2 no_rise).cell (get_or rs 2 no_rise).magnitude i) 0))
magnitude_of_three [] e i = absurd (omega arith)
magnitude_of_three (a ∷ []) e i = absurd (omega arith)
magnitude_of_three (a ∷ b ∷ []) e i = absurd (omega arith)
magnitude_of_three (a ∷ b ∷ c ∷ []) e i = refl
magnitude_of_three (a ∷ b ∷ c ∷ d ∷ rs) e i = absurd (omega arith)

-- with a choice left, the third is not made
module _ (k : Risen) (three : length k.rises ≡ 3) (free : (rise_at k 2).magnitude ≡ 0) where
  abbrev two : ℕ → ℕ
  two i = or_else (magnitude_of (rise_at k 0).cell (rise_at k 0).magnitude i)
      (or_else (magnitude_of (rise_at k 1).cell (rise_at k 1).magnitude i) 0)

  of_two : (i : ℕ) → magnitude_at k i ≡ two i
  unfolding magnitude_at
  of_two i =
      magnitude_of_three k.rises three i
      ∙ ap (λ (x : ℕ). or_else (magnitude_of (rise_at k 0).cell (rise_at k 0).magnitude i)
      (or_else (magnitude_of (rise_at k 1).cell (rise_at k 1).magnitude i) (or_else x 0)))
      (ap (λ (m : ℕ). magnitude_of (rise_at k 2).cell m i) free ∙ of_none (rise_at k 2).cell i)

  -- a choice more, of a cell that is not chosen
  pub added-at : (c g : ℕ) → magnitude_at k c ≡ 0 → (i : ℕ) → magnitude_at (added k c g) i ≡ magnitude_at k i + magnitude_of c g i
  unfolding magnitude_at
  added-at c g here i = by (eqb c i) refl
    where
      by : (h : Bool) → eqb c i ≡ h → or_else (cond h g 0) (two i) ≡ magnitude_at k i + cond h g 0
      by true e =
          let z : magnitude_at k i ≡ 0 = ap (magnitude_at k) (sym (eqb-true c i e)) ∙ here in
          ap (or_else g) (sym (of_two i) ∙ z) ∙ or_none g ∙ sym (zero-add g) ∙ ap (λ (x : ℕ). x + g) (sym z)
      by false e = sym (of_two i) ∙ sym (add-zero (magnitude_at k i))

  pub added_none : (c i : ℕ) → magnitude_at (added k c 0) i ≡ magnitude_at k i
  unfolding magnitude_at
  added_none c i = ap (λ (x : ℕ). or_else x (two i)) (of_none c i) ∙ sym (of_two i)

pub unrisen-at : (i : ℕ) → magnitude_at unrisen i ≡ 0
unfolding magnitude_at
unrisen-at i = simp (of_none 0 i)

-- a cell has the magnitude 0, or is chosen: what holds of all chosen cells holds of it
pub chosen_or_none :
    (P : ℕ → Type 0) (rs : List Rise) → ((j : ℕ) → j < length rs → P (get_or rs j no_rise).cell) → (i : ℕ) → (magnitude_in rs i ≡ 0) ⊎ P i
chosen_or_none P [] h i = inl refl
chosen_or_none P (r ∷ rs) h i = step (eqb r.cell i) refl (chosen_or_none P rs (λ j l. h (suc j) (omega arith)) i)
  where
    step :
        (b : Bool) → eqb r.cell i ≡ b → (magnitude_in rs i ≡ 0) ⊎ P i
        → (or_else (cond b r.magnitude 0) (magnitude_in rs i) ≡ 0) ⊎ P i
    step true e s = inr (subst P (eqb-true r.cell i e) (h 0 (omega arith)))
    step false e s = s

-- words
pub length-word : (n : ℕ) (k : Risen) → length (word_of n k) ≡ n
unfolding word_of
length-word n k = length-map (up_from 0 n) (magnitude_at k) ∙ length-up_from 0 n

pub word_at : (n : ℕ) (k : Risen) (i : ℕ) → i < n → at (word_of n k) i ≡ magnitude_at k i
unfolding word_of
word_at n k i h = at-up_from (magnitude_at k) 0 n i h ∙ ap (magnitude_at k) (zero-add i)

pub word-past : (n : ℕ) (k : Risen) (i : ℕ) → n ≤ i → at (word_of n k) i ≡ 0
word-past n k i h = at-past (word_of n k) i (rw (length-word n k) h)

map_snoc : (f : ℕ → ℕ) (a n : ℕ) → map f (up_from a (suc n)) ≡ map f (up_from a n) ++ (f (a + n) ∷ [])
map_snoc f a zero = rw (add-zero a)
map_snoc f a (suc n) =
    ap (λ (l : List ℕ). f a ∷ l) (map_snoc f (suc a) n ∙ ap (λ (x : ℕ). map f (up_from (suc a) n) ++ (f x ∷ [])) (suc-add a n ∙ sym (add-suc a n)))

pub word_more : (n : ℕ) (k : Risen) (v : ℕ) → magnitude_at k n ≡ v → word_of (n + 1) k ≡ word_of n k ++ (v ∷ [])
unfolding word_of
word_more n k v e =
    ap (λ (m : ℕ). map (magnitude_at k) (up_from 0 m)) (add-one n) ∙ map_snoc (magnitude_at k) 0 n
    ∙ ap (λ (x : ℕ). map (magnitude_at k) (up_from 0 n) ++ (x ∷ [])) (ap (magnitude_at k) (zero-add n) ∙ e)

map-up_from : (f g : ℕ → ℕ) (a n : ℕ) → ((i : ℕ) → i < n → f (a + i) ≡ g (a + i)) → map f (up_from a n) ≡ map g (up_from a n)
map-up_from f g a zero h = refl
map-up_from f g a (suc n) h =
    ap₂ {C = List ℕ} (λ x l. x ∷ l) (ap f (sym (add-zero a)) ∙ h 0 (omega arith) ∙ ap g (add-zero a))
    (map-up_from f g (suc a) n (λ i b. ap f (shift i) ∙ h (suc i) (omega arith) ∙ ap g (sym (shift i))))
  where
    shift : (i : ℕ) → suc a + i ≡ a + suc i
    shift i = omega arith

pub word_same : (n : ℕ) (k k' : Risen) → ((i : ℕ) → i < n → magnitude_at k i ≡ magnitude_at k' i) → word_of n k ≡ word_of n k'
unfolding word_of
word_same n k k' h = map-up_from (magnitude_at k) (magnitude_at k') 0 n
    (λ i b. ap (magnitude_at k) (zero-add i) ∙ h i b ∙ ap (magnitude_at k') (sym (zero-add i)))

-- the choices so far, as the search goes on
none_free : (j : ℕ) → (rise_at unrisen j).magnitude ≡ 0
none_free zero = refl
none_free (suc zero) = refl
none_free (suc (suc zero)) = refl
none_free (suc (suc (suc j))) = refl

pub chosen_none : (left : ℕ) → left ≤ 3 → Chosen unrisen left 0
chosen_none left h = record { few = h; three = refl; free = λ j _. none_free j; before = λ i _. unrisen-at i }

pub chosen_later : (k : Risen) (left cell c : ℕ) → cell ≤ c → Chosen k left cell → Chosen k left c
chosen_later k left cell c h s = record { few = s.few; three = s.three; free = s.free; before = λ i g. s.before i (omega arith) }

pub chosen-next : (k : Risen) (left cell : ℕ) → Chosen k left cell → Chosen k left (cell + 1)
chosen-next k left cell = chosen_later k left cell (cell + 1) (omega arith)

pub chosen_plus :
    (k : Risen) (left cell g : ℕ) → Chosen k left cell → 1 ≤ left → (i : ℕ) → magnitude_at (added k cell g) i ≡ magnitude_at k i + magnitude_of cell g i
chosen_plus k left cell g s one = added-at k s.three (s.free 2 (omega arith)) cell g (s.before cell (omega arith))

pub chosen-added : (k : Risen) (left cell g : ℕ) → Chosen k left cell → 1 ≤ left → Chosen (added k cell g) (left - 1) (cell + 1)
chosen-added k left cell g s one = record {
  few = (let h = s.few in omega arith);
  three = refl;
  free = free;
  before = λ i h. chosen_plus k left cell g s one i ∙ ap₂ ◌+◌ (s.before i (omega arith)) (of_other cell g i (λ e. omega arith)) ∙ refl;
}
  where
    free : (j : ℕ) → 3 ≤ j + (left - 1) → (rise_at (added k cell g) j).magnitude ≡ 0
    free zero h = absurd (let b = s.few in omega arith)
    free (suc zero) h = s.free 0 (omega arith)
    free (suc (suc zero)) h = s.free 1 (omega arith)
    free (suc (suc (suc j))) h = refl
