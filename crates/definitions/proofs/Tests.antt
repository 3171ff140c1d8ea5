-- What the tests of the definitions show: each is the proposition beside it.
use mathlib.Core.Path.{◌≡◌, refl, sym, ap₂, subst}
use mathlib.Core.Bool.{Bool, true, false, ◌&&◌}
use mathlib.Core.Logic.{◌⊎◌, inl, inr}
use mathlib.Core.List.{List, [], ◌∷◌}
use Prim.Native.Nat.{ℕ, ◌≤◌, ◌<◌}
use lib.Dec.{T, eqb, leb, ltb, eqb→eq, eqb_refl, leb→le, le→leb, ltb→lt, lt→ltb}
use borrow.Author.Tests.{eq-eqb}
use Rattle.definitions.specs.Words.{same_word, nowhere_above, all_below, EachCell, EachPair}

pub and_left : (a b : Bool) → T (a && b) → T a
and_left true b h = tt
and_left false b h = h

pub and_right : (a b : Bool) → T (a && b) → T b
and_right true b h = h
and_right false b h = absurd h

pub and_both : (a b : Bool) → T a → T b → T (a && b)
and_both true b h k = k
and_both false b h k = h

-- a test is passed or failed
pub passes_or_not : (b : Bool) → T b ⊎ (T b → ⊥)
passes_or_not true = inl tt
passes_or_not false = inr (λ h. h)

pub eq_test : (a b : ℕ) → a ≡ b → T (eqb a b)
eq_test a b e = subst T (sym (eq-eqb a b e)) tt

pub same_eq : (x y : List ℕ) → T (same_word x y) → x ≡ y
same_eq [] [] h = refl
same_eq [] (y ∷ ys) h = absurd h
same_eq (x ∷ xs) [] h = absurd h
same_eq (x ∷ xs) (y ∷ ys) h =
    ap₂ {C = List ℕ} (λ a b. a ∷ b) (eqb→eq x y (and_left (eqb x y) (same_word xs ys) h))
    (same_eq xs ys (and_right (eqb x y) (same_word xs ys) h))

pub same_refl : (x : List ℕ) → T (same_word x x)
same_refl [] = tt
same_refl (x ∷ xs) = and_both (eqb x x) (same_word xs xs) (eqb_refl x) (same_refl xs)

pub below_each : (b : ℕ) (x : List ℕ) → T (all_below b x) → EachCell (λ v. v < b) x
below_each b [] h = tt
below_each b (x ∷ xs) h =
    (ltb→lt x b (and_left (ltb x b) (all_below b xs) h), below_each b xs (and_right (ltb x b) (all_below b xs) h))

pub each_below : (b : ℕ) (x : List ℕ) → EachCell (λ v. v < b) x → T (all_below b x)
each_below b [] h = tt
each_below b (x ∷ xs) h = and_both (ltb x b) (all_below b xs) (lt→ltb x b h.0) (each_below b xs h.1)

pub above-each : (e y : List ℕ) → T (nowhere_above e y) → EachPair (λ a b. b ≤ a) y e
above-each [] [] h = tt
above-each [] (y ∷ ys) h = h
above-each (e ∷ es) [] h = h
above-each (e ∷ es) (y ∷ ys) h =
    (leb→le e y (and_left (leb e y) (nowhere_above es ys) h), above-each es ys (and_right (leb e y) (nowhere_above es ys) h))

pub each-above : (e y : List ℕ) → EachPair (λ a b. b ≤ a) y e → T (nowhere_above e y)
each-above [] [] h = tt
each-above [] (y ∷ ys) h = h
each-above (e ∷ es) [] h = h
each-above (e ∷ es) (y ∷ ys) h = and_both (leb e y) (nowhere_above es ys) (le→leb e y h.0) (each-above es ys h.1)
