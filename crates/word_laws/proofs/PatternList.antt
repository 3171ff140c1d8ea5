-- The list of patterns: it holds exactly the words of n magnitudes with at most t not 0, each once, in document 01's order, P in all.
-- Over the magnitudes, the weight and the length.
use mathlib.Core.Path.{◌≡◌, refl, sym, ap, ap₂, ◌∙◌, subst}
use mathlib.Core.Logic.{◌⊎◌, inl, inr}
use mathlib.Core.List.Memᴰ
use mathlib.Core.List.{List, [], ◌∷◌, ◌++◌, Memᴰ}
use Prim.Native.Nat.{ℕ, zero, suc, ◌+◌, ◌*◌, ◌^◌, ◌≤◌, ◌<◌}
use native.Mathlib.Nat.{eq-or-lt_of_le, pow-zero, pow-suc, zero-add, zero-mul}
use native.Mathlib.Omega.{arith}
use lib.ListN.{length, length-append}
use Rattle.definitions.specs.Words.{sum_to, up_from, weight, EachCell}
use Rattle.definitions.specs.Patterns.{prefixed, prefixed_by_each, of_weight, patterns, binomial, risen_from, Smaller, Lower, Before}
use Rattle.definitions.specs.Tried.{Once}
use Rattle.word_laws.proofs.Cells.{up_from_bounds}

-- Members

prefixed_mem : (v : ℕ) {e : List ℕ} {es : List (List ℕ)} → Memᴰ e es → Memᴰ (v ∷ e) (prefixed v es)
prefixed_mem v (Memᴰ.head p) = Memᴰ.head (ap {B = List ℕ} (λ u. v ∷ u) p)
prefixed_mem v (Memᴰ.tail m) = Memᴰ.tail (prefixed_mem v m)

each_mem : {v : ℕ} {vs : List ℕ} {e : List ℕ} {es : List (List ℕ)} → Memᴰ v vs → Memᴰ e es → Memᴰ (v ∷ e) (prefixed_by_each vs es)
each_mem {e} {es} (Memᴰ.head {x = x} {xs = xs} p) m =
    Memᴰ.append_left (prefixed_by_each xs es) (Memᴰ.cast (ap {B = List ℕ} (λ u. u ∷ e) p) (prefixed_mem x m))
each_mem {e} {es} (Memᴰ.tail {x = x} k) m = Memᴰ.append_right (prefixed x es) (each_mem k m)

prefixed_cases : (v : ℕ) (es : List (List ℕ)) {e : List ℕ} → Memᴰ e (prefixed v es) → (u : List ℕ) × (e ≡ v ∷ u) × Memᴰ u es
prefixed_cases v [] m = absurd (Memᴰ.not-nil m)
prefixed_cases v (x ∷ es) {e} m = elim (Memᴰ.cases_cons m) as (λ d. (u : List ℕ) × (e ≡ v ∷ u) × Memᴰ u (x ∷ es))
    [ inl p ↦ (x, p, Memᴰ.head refl) | inr k ↦ let (u, p, h) = prefixed_cases v es k in (u, p, Memᴰ.tail h) ]

each_cases :
    (vs : List ℕ) (es : List (List ℕ)) {e : List ℕ} → Memᴰ e (prefixed_by_each vs es)
    → (v : ℕ) × (u : List ℕ) × Memᴰ v vs × (e ≡ v ∷ u) × Memᴰ u es
each_cases [] es m = absurd (Memᴰ.not-nil m)
each_cases (w ∷ vs) es {e} m =
    elim (Memᴰ.append_cases (prefixed w es) m) as (λ d. (v : ℕ) × (u : List ℕ) × Memᴰ v (w ∷ vs) × (e ≡ v ∷ u) × Memᴰ u es) [
      | inl k ↦ let (u, p, h) = prefixed_cases w es k in (w, u, Memᴰ.head refl, p, h)
      | inr k ↦ let (v, u, a, p, h) = each_cases vs es k in (v, u, Memᴰ.tail a, p, h)
    ]

-- a cell's magnitude: 0 or one of the magnitudes
abbrev pub Entry : List ℕ → ℕ → Type 0
Entry mags v = (v ≡ 0) ⊎ Memᴰ v mags

pub record IsPattern (mags : List ℕ) (t n : ℕ) (e : List ℕ) : Type 0 where
  pub long : length e ≡ n
  pub each : EachCell (Entry mags) e
  pub few : weight e ≤ t

module _ (mags : List ℕ) where
  zero_mem : (w n : ℕ) {e : List ℕ} → Memᴰ e (of_weight mags w n) → Memᴰ (0 ∷ e) (of_weight mags w (suc n))
  zero_mem zero n m = prefixed_mem 0 m
  zero_mem (suc w) n m = Memᴰ.append_right (prefixed_by_each mags (of_weight mags w n)) (prefixed_mem 0 m)

  of_weight_mem : (e : List ℕ) → EachCell (Entry mags) e → Memᴰ e (of_weight mags (weight e) (length e))
  of_weight_mem [] h = Memᴰ.head refl
  of_weight_mem (zero ∷ e) h = zero_mem (weight e) (length e) (of_weight_mem e h.1)
  of_weight_mem (suc v ∷ e) h =
      Memᴰ.append_left (prefixed 0 (of_weight mags (suc (weight e)) (length e))) (each_mem (allowed h.0) (of_weight_mem e h.1))
    where
      allowed : Entry mags (suc v) → Memᴰ (suc v) mags
      allowed (inl p) = absurd (omega arith)
      allowed (inr m) = m

  patterns_mem : (t n : ℕ) (e : List ℕ) (w : ℕ) → w ≤ t → Memᴰ e (of_weight mags w n) → Memᴰ e (patterns mags t n)
  patterns_mem zero n e zero h m = m
  patterns_mem zero n e (suc w) h m = absurd (omega arith)
  patterns_mem (suc t) n e w h m = elim (eq-or-lt_of_le h) as (λ d. Memᴰ e (patterns mags (suc t) n)) [
    | inl p ↦ Memᴰ.append_right (patterns mags t n) (subst (λ (k : ℕ). Memᴰ e (of_weight mags k n)) p m)
    | inr k ↦ Memᴰ.append_left (of_weight mags (suc t) n) (patterns_mem t n e w (omega arith) m)
  ]

  -- every pattern is listed
  pub pattern_listed : (t n : ℕ) (e : List ℕ) → IsPattern mags t n e → Memᴰ e (patterns mags t n)
  pattern_listed t n e h =
      patterns_mem t n e (weight e) h.few (subst (λ (k : ℕ). Memᴰ e (of_weight mags (weight e) k)) h.long (of_weight_mem e h.each))

  module _ (pos : (v : ℕ) → Memᴰ v mags → 0 < v) where
    abbrev Shape : ℕ → ℕ → List ℕ → Type 0
    Shape w n e = (length e ≡ n) × EachCell (Entry mags) e × (weight e ≡ w)

    pub of_weight_shape : (w n : ℕ) (e : List ℕ) → Memᴰ e (of_weight mags w n) → (length e ≡ n) × EachCell (Entry mags) e × (weight e ≡ w)
    of_weight_shape zero zero e m = elim (Memᴰ.cases_cons m) as (λ d. Shape 0 0 e)
        [ inl p ↦ subst (Shape 0 0) (sym p) (refl, tt, refl) | inr k ↦ absurd (Memᴰ.not-nil k) ]
    of_weight_shape (suc w) zero e m = absurd (Memᴰ.not-nil m)
    of_weight_shape zero (suc n) e m =
        let (u, p, k) = prefixed_cases 0 (of_weight mags zero n) m in
        let (a, b, c) = of_weight_shape zero n u k in
        subst (Shape 0 (suc n)) (sym p) (ap suc a, (inl refl, b), c)
    of_weight_shape (suc w) (suc n) e m = elim (Memᴰ.append_cases (prefixed_by_each mags (of_weight mags w n)) m) as (λ d. Shape (suc w) (suc n) e) [
      | inl k ↦
          (let (v, u, a, p, h) = each_cases mags (of_weight mags w n) k in
          let (b, c, d) = of_weight_shape w n u h in
          subst (Shape (suc w) (suc n)) (sym p) (ap suc b, (inr a, c), raised v u (pos v a) ∙ ap suc d))
      | inr k ↦
          (let (u, p, h) = prefixed_cases 0 (of_weight mags (suc w) n) k in
          let (b, c, d) = of_weight_shape (suc w) n u h in
          subst (Shape (suc w) (suc n)) (sym p) (ap suc b, (inl refl, c), d))
    ]
      where
        raised : (v : ℕ) (u : List ℕ) → 0 < v → weight (v ∷ u) ≡ suc (weight u)
        raised zero u h = absurd (omega arith)
        raised (suc v) u h = refl

    -- nothing else is listed
    pub listed_pattern : (t n : ℕ) (e : List ℕ) → Memᴰ e (patterns mags t n) → IsPattern mags t n e
    listed_pattern zero n e m = let (a, b, c) = of_weight_shape 0 n e m in record { long = a; each = b; few = omega arith }
    listed_pattern (suc t) n e m = elim (Memᴰ.append_cases (patterns mags t n) m) as (λ d. IsPattern mags (suc t) n e) [
      | inl k ↦ (let h = listed_pattern t n e k in record { long = h.long; each = h.each; few = omega (arith, h.few) })
      | inr k ↦ (let (a, b, c) = of_weight_shape (suc t) n e k in record { long = a; each = b; few = omega arith })
    ]

-- Order

-- R holds of each entry and every later one
abbrev pub Ascending : (List ℕ → List ℕ → Type 0) → List (List ℕ) → Type 0
Ascending R [] = Unit {0}
Ascending R (e ∷ es) = ((f : List ℕ) → Memᴰ f es → R e f) × Ascending R es

ascending_append : (R : List ℕ → List ℕ → Type 0) (xs ys : List (List ℕ)) → Ascending R xs → Ascending R ys
    → ((a b : List ℕ) → Memᴰ a xs → Memᴰ b ys → R a b) → Ascending R (xs ++ ys)
ascending_append R [] ys u v c = v
ascending_append R (x ∷ xs) ys u v c = (
  (λ f m. elim (Memᴰ.append_cases xs m) as (λ d. R x f) [ inl k ↦ u.0 f k | inr k ↦ c x f (Memᴰ.head refl) k ]),
  ascending_append R xs ys u.1 v (λ a b m k. c a b (Memᴰ.tail m) k),
)

ascending_prefixed : (Q R : List ℕ → List ℕ → Type 0) (v : ℕ) → ((e f : List ℕ) → Q e f → R (v ∷ e) (v ∷ f))
    → (es : List (List ℕ)) → Ascending Q es → Ascending R (prefixed v es)
ascending_prefixed Q R v s [] h = tt
ascending_prefixed Q R v s (e ∷ es) h = (
  (λ f m. let (u, p, k) = prefixed_cases v es m in subst (R (v ∷ e)) (sym p) (s e u (h.0 u k))),
  ascending_prefixed Q R v s es h.1,
)

ascending_mono :
    (Q R : List ℕ → List ℕ → Type 0) (es : List (List ℕ)) → ((a b : List ℕ) → Memᴰ a es → Memᴰ b es → Q a b → R a b) → Ascending Q es
    → Ascending R es
ascending_mono Q R [] s h = tt
ascending_mono Q R (e ∷ es) s h = (
  (λ f m. s e f (Memᴰ.head refl) (Memᴰ.tail m) (h.0 f m)),
  ascending_mono Q R es (λ a b m k. s a b (Memᴰ.tail m) (Memᴰ.tail k)) h.1,
)

-- of two patterns at most one is before the other
smaller_one_way : (a b : ℕ × ℕ) → Smaller a b → Smaller b a → ⊥
smaller_one_way a b (inl h) (inl g) = omega arith
smaller_one_way a b (inl h) (inr g) = omega arith
smaller_one_way a b (inr h) (inl g) = omega arith
smaller_one_way a b (inr h) (inr g) = omega arith

lower_one_way : (x y : List (ℕ × ℕ)) → Lower x y → Lower y x → ⊥
lower_one_way [] y h g = h
lower_one_way (a ∷ x) [] h g = h
lower_one_way (a ∷ x) (b ∷ y) (inl h) (inl g) = smaller_one_way a b h g
lower_one_way (a ∷ x) (b ∷ y) (inl h) (inr g) = let s = subst (Smaller a) g.0 h in smaller_one_way a a s s
lower_one_way (a ∷ x) (b ∷ y) (inr h) (inl g) = let s = subst (Smaller b) h.0 g in smaller_one_way b b s s
lower_one_way (a ∷ x) (b ∷ y) (inr h) (inr g) = lower_one_way x y h.1 g.1

pub before_one_way : (e f : List ℕ) → Before e f → Before f e → ⊥
before_one_way e f (inl h) (inl g) = omega arith
before_one_way e f (inl h) (inr g) = omega arith
before_one_way e f (inr h) (inl g) = omega arith
before_one_way e f (inr h) (inr g) = lower_one_way (risen_from 1 e) (risen_from 1 f) h.1 g.1

-- each magnitude is smaller than those after it
abbrev pub Rising : List ℕ → Type 0
Rising [] = Unit {0}
Rising (v ∷ vs) = ((u : ℕ) → Memᴰ u vs → v < u) × Rising vs

risen_here : (i v : ℕ) (e : List ℕ) → 0 < v → risen_from i (v ∷ e) ≡ (i, v) ∷ risen_from (suc i) e
risen_here i zero e h = absurd (omega arith)
risen_here i (suc v) e h = refl

-- a pattern that is risen somewhere in its first cell or later comes after one that is risen in the cell before
lower_later : (x : ℕ × ℕ) (xs : List (ℕ × ℕ)) (f : List ℕ) (w i : ℕ) → weight f ≡ suc w → x.0 < i → Lower (x ∷ xs) (risen_from i f)
lower_later x xs [] w i h g = absurd (omega arith)
lower_later x xs (zero ∷ f) w i h g = lower_later x xs f w (suc i) h (omega arith)
lower_later x xs (suc v ∷ f) w i h g = inl (inl g)

abbrev pub LowerFrom : ℕ → List ℕ → List ℕ → Type 0
LowerFrom i e f = Lower (risen_from i e) (risen_from i f)

lower_same : (i v : ℕ) → 0 < v → (e f : List ℕ) → LowerFrom (suc i) e f → LowerFrom i (v ∷ e) (v ∷ f)
lower_same i v h e f g = subst (λ x. x) (sym (ap₂ Lower (risen_here i v e h) (risen_here i v f h))) (inr (refl, g))

lower_magnitude : (i u v : ℕ) → 0 < u → u < v → (e f : List ℕ) → LowerFrom i (u ∷ e) (v ∷ f)
lower_magnitude i u v h g e f =
    subst (λ x. x) (sym (ap₂ Lower (risen_here i u e h) (risen_here i v f (omega arith)))) (inl (inr (refl, g)))

module _ (mags : List ℕ) (pos : (v : ℕ) → Memᴰ v mags → 0 < v) (rising : Rising mags) where
  ascending_each :
      (i : ℕ) (es : List (List ℕ)) → Ascending (LowerFrom (suc i)) es → (vs : List ℕ) → ((v : ℕ) → Memᴰ v vs → 0 < v) → Rising vs
      → Ascending (LowerFrom i) (prefixed_by_each vs es)
  ascending_each i es h [] p r = tt
  ascending_each i es h (v ∷ vs) p r =
      ascending_append (LowerFrom i) (prefixed v es) (prefixed_by_each vs es)
      (ascending_prefixed (LowerFrom (suc i)) (LowerFrom i) v (lower_same i v (p v (Memᴰ.head refl))) es h)
      (ascending_each i es h vs (λ u m. p u (Memᴰ.tail m)) r.1) cross
    where
      cross : (a b : List ℕ) → Memᴰ a (prefixed v es) → Memᴰ b (prefixed_by_each vs es) → LowerFrom i a b
      cross a b m k =
          let (e, q, _) = prefixed_cases v es m in
          let (u, f, g, s, _) = each_cases vs es k in
          subst (λ x. LowerFrom i x b) (sym q) (subst (LowerFrom i (v ∷ e)) (sym s) (lower_magnitude i v u (p v (Memᴰ.head refl)) (r.0 u g) e f))

  ascending_of_weight : (w n i : ℕ) → Ascending (LowerFrom i) (of_weight mags w n)
  ascending_of_weight zero zero i = ((λ f m. absurd (Memᴰ.not-nil m)), tt)
  ascending_of_weight (suc w) zero i = tt
  ascending_of_weight zero (suc n) i =
      ascending_prefixed (LowerFrom (suc i)) (LowerFrom i) 0 (λ e f h. h) (of_weight mags zero n) (ascending_of_weight zero n (suc i))
  ascending_of_weight (suc w) (suc n) i =
      ascending_append (LowerFrom i) (prefixed_by_each mags (of_weight mags w n)) (prefixed 0 (of_weight mags (suc w) n))
      (ascending_each i (of_weight mags w n) (ascending_of_weight w n (suc i)) mags pos rising)
      (ascending_prefixed (LowerFrom (suc i)) (LowerFrom i) 0 (λ e f h. h) (of_weight mags (suc w) n) (ascending_of_weight (suc w) n (suc i))) cross
    where
      cross : (a b : List ℕ) → Memᴰ a (prefixed_by_each mags (of_weight mags w n)) → Memᴰ b (prefixed 0 (of_weight mags (suc w) n)) → LowerFrom i a b
      cross a b m k =
          let (v, e, g, q, _) = each_cases mags (of_weight mags w n) m in
          let (f, s, h) = prefixed_cases 0 (of_weight mags (suc w) n) k in
          let (_, _, c) = of_weight_shape mags pos (suc w) n f h in
          subst (λ x. LowerFrom i x b) (sym q)
          (subst (LowerFrom i (v ∷ e)) (sym s)
          (subst (λ x. Lower x (risen_from (suc i) f)) (sym (risen_here i v e (pos v g)))
          (lower_later (i, v) (risen_from (suc i) e) f w (suc i) c (omega arith))))

  -- the list is strictly ascending in document 01's order
  pub ascending_patterns : (t n : ℕ) → Ascending Before (patterns mags t n)
  ascending_patterns t n = go t
    where
      same_weight : (w : ℕ) → Ascending Before (of_weight mags w n)
      same_weight w = ascending_mono (LowerFrom 1) Before (of_weight mags w n)
          (λ a b m k h. inr ((of_weight_shape mags pos w n a m).2 ∙ sym (of_weight_shape mags pos w n b k).2, h))
          (ascending_of_weight w n 1)

      go : (s : ℕ) → Ascending Before (patterns mags s n)
      go zero = same_weight 0
      go (suc s) = ascending_append Before (patterns mags s n) (of_weight mags (suc s) n) (go s) (same_weight (suc s))
          (λ a b m k.
          let h = listed_pattern mags pos s n a m in
          let (_, _, c) = of_weight_shape mags pos (suc s) n b k in
          inl (omega (arith, h.few)))

  -- so no pattern is listed again
  pub once-patterns : (t n : ℕ) → Once (patterns mags t n)
  once-patterns t n = go (patterns mags t n) (ascending_patterns t n)
    where
      go : (es : List (List ℕ)) → Ascending Before es → Once es
      go [] h = tt
      go (e ∷ es) h = ((λ m. let b = h.0 e m in before_one_way e e b b), go es h.1)

pub rising_up_from : (a k : ℕ) → Rising (up_from a k)
rising_up_from a zero = tt
rising_up_from a (suc k) = ((λ u m. omega (arith, up_from_bounds (suc a) k u m)), rising_up_from (suc a) k)

-- Number

length-prefixed : (v : ℕ) (es : List (List ℕ)) → length (prefixed v es) ≡ length es
length-prefixed v [] = refl
length-prefixed v (e ∷ es) = ap suc (length-prefixed v es)

length-each : (vs : List ℕ) (es : List (List ℕ)) → length (prefixed_by_each vs es) ≡ length vs * length es
length-each [] es = sym (zero-mul (length es))
length-each (v ∷ vs) es =
    length-append (prefixed v es) (prefixed_by_each vs es) ∙ ap₂ ◌+◌ (length-prefixed v es) (length-each vs es) ∙ regroup (length es) (length vs)
  where
    regroup : (a b : ℕ) → a + b * a ≡ suc b * a
    regroup a b = omega arith

module _ (mags : List ℕ) where
  pub length-of_weight : (w n : ℕ) → length (of_weight mags w n) ≡ binomial n w * length mags ^ w
  length-of_weight zero zero = rw (pow-zero (length mags))
  length-of_weight (suc w) zero = sym (zero-mul (length mags ^ suc w))
  length-of_weight zero (suc n) = length-prefixed 0 (of_weight mags zero n) ∙ length-of_weight zero n
  length-of_weight (suc w) (suc n) =
      length-append (prefixed_by_each mags (of_weight mags w n)) (prefixed 0 (of_weight mags (suc w) n))
      ∙ ap₂ ◌+◌ (length-each mags (of_weight mags w n) ∙ ap (λ (k : ℕ). length mags * k) (length-of_weight w n))
      (length-prefixed 0 (of_weight mags (suc w) n) ∙ length-of_weight (suc w) n)
      ∙ regroup (length mags) (length mags ^ w) (length mags ^ suc w) (binomial n w) (binomial n (suc w)) (pow-suc (length mags) w)
    where
      regroup : (m a b c d : ℕ) → b ≡ a * m → m * (c * a) + d * b ≡ (c + d) * b
      regroup m a b c d h = rw h (omega arith)

  pub length-patterns : (t n : ℕ) → length (patterns mags t n) ≡ sum_to (suc t) (λ i. binomial n i * length mags ^ i)
  length-patterns zero n = length-of_weight 0 n ∙ sym (zero-add (binomial n 0 * length mags ^ 0))
  length-patterns (suc t) n = length-append (patterns mags t n) (of_weight mags (suc t) n) ∙ ap₂ ◌+◌ (length-patterns t n) (length-of_weight (suc t) n)
