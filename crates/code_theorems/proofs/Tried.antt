-- Patterns tried (document 02's wish 1): what reading reports is the place of the given pattern.
use mathlib.Core.Path.{◌≡◌, refl, sym, ap, ◌∙◌, subst}
use mathlib.Core.Logic.{inl, inr}
use mathlib.Core.List.{List, [], ◌∷◌, Memᴰ}
use mathlib.Core.Option.{some}
use Prim.Native.Nat.{ℕ, zero, suc, ◌-◌, ◌≤◌}
use native.Mathlib.Omega.{arith}
use lib.ListN.{length}
use Rattle.definitions.specs.Words.{subtract, weight}
use Rattle.definitions.specs.Answers.{given}
use Rattle.definitions.specs.Codes.{Code, code_of}
use Rattle.definitions.specs.Patterns.{patterns_of, Pattern, risen_from, Lower, Before}
use Rattle.definitions.specs.Decoding.{first, fits, decode}
use Rattle.definitions.specs.CodeOperations.{open_code, decode_code}
use Rattle.definitions.specs.Tried.{place_of, tried, tried_code, PatternsBefore, GivenAt, TriedIsPlace}
use Rattle.word_laws.proofs.Lists.{first_some}
use Rattle.word_laws.proofs.PatternList.{before_one_way}
use Rattle.word_laws.proofs.Places.{place-low, place-high, place_found, earlier, once_shorter}
use Rattle.word_laws.proofs.Subtraction.{subtract-back}
use Rattle.code_theorems.proofs.Acceptance.{pattern_in, in_pattern, patterns_ascend, patterns-number}
use Rattle.code_theorems.proofs.Deciding.{result-given}
use Rattle.code_theorems.proofs.Decoding.{fits-above, given-found}
use Rattle.code_theorems.proofs.Refusals.{after-given, given_read}
use Rattle.code_theorems.proofs.Opened.{opened}
use Rattle.code_theorems.proofs.Demands.{decodes}

-- as many patterns come before a pattern as its place says
pub patterns-before : (p : Code) (e : List ℕ) → Pattern p e → PatternsBefore p e (place_of p e - 1)
unfolding place_of
patterns-before p e h =
    let s = earlier Before before_one_way (patterns_of p) (patterns_ascend p) e (pattern_in p e h) in
    record {
      list = s.list;
      exactly = λ f. (
        (λ m. let (a, b) = (s.exactly f).0 m in (in_pattern p f a, b)),
        (λ k. (s.exactly f).1 (pattern_in p f k.0, k.1)),
      );
      once = s.once;
      number = omega (arith, s.place);
    }

-- it is one number
pub one_number : (p : Code) (e : List ℕ) (j k : ℕ) → PatternsBefore p e j → PatternsBefore p e k → j ≡ k
one_number p e j k a b =
    let l = once_shorter a.list b.list a.once (λ f m. (b.exactly f).1 ((a.exactly f).0 m)) in
    let g = once_shorter b.list a.list b.once (λ f m. (a.exactly f).1 ((b.exactly f).0 m)) in
    omega (arith, a.number, b.number)

-- nothing comes before the empty pattern
lower_risen : (i : ℕ) (f : List ℕ) (x : List (ℕ × ℕ)) → Lower (risen_from i f) x → 1 ≤ weight f
lower_risen i [] x h = absurd h
lower_risen i (zero ∷ f) x h = lower_risen (suc i) f x h
lower_risen i (suc v ∷ f) x h = omega arith

before_risen : (f e : List ℕ) → Before f e → 1 ≤ weight e
before_risen f e (inl h) = omega arith
before_risen f e (inr h) = let w = lower_risen 1 f (risen_from 1 e) h.1 in omega arith

none_before_empty : (p : Code) (e : List ℕ) (k : ℕ) → PatternsBefore p e k → weight e ≡ 0 → k ≡ 0
none_before_empty p e k s z = sym s.number ∙ step s.list (λ f m. before_risen f e ((s.exactly f).0 m).1)
  where
    step : (xs : List (List ℕ)) → ((f : List ℕ) → Memᴰ f xs → 1 ≤ weight e) → length xs ≡ 0
    step [] h = refl
    step (x ∷ xs) h = absurd (omega (arith, h x (Memᴰ.head refl)))

module _ (p : Code) (y : List ℕ) (long : length y ≡ p.n) where
  found_at : (e : List ℕ) → first (fits p y) (patterns_of p) ≡ some e → GivenAt p y (subtract y e) (tried p y)
  unfolding tried place_of
  found_at e q =
      let (m, f) = first_some (fits p y) (patterns_of p) e q in
      let h = in_pattern p e m in
      let above = fits-above p y long e f in
      let place : tried p y ≡ place_of p e = place_found (fits p y) (patterns_of p) e q in
      let before : PatternsBefore p e (tried p y - 1) = subst (λ (k : ℕ). PatternsBefore p e (k - 1)) (sym place) (patterns-before p e h) in
      let least : 1 ≤ tried p y = place-low (fits p y) (patterns_of p) in
      record {
        pattern = e;
        subtracted = record { is_pattern = h; nowhere_above = above; leaves = refl };
        only = λ d g. sym (subtract-back y d g.nowhere_above) ∙ ap (subtract y) g.leaves ∙ subtract-back y e above;
        place = place;
        before = before;
        least = least;
        most = subst (λ (k : ℕ). tried p y ≤ k) (patterns-number p) (place-high (fits p y) (patterns_of p) e q);
        empty = λ z. omega (arith, none_before_empty p e (tried p y - 1) before z);
      }

  given-at : (k : ℕ) (x : List ℕ) → decode p y ≡ given (k, x) → GivenAt p y x (tried p y)
  given-at k x q = let (e, f, _, s) = given-found p y long k x q in subst (λ (z : List ℕ). GivenAt p y z (tried p y)) s (found_at e f)

-- for every description, word and buffer
pub tried_is_place : (b y out : List ℕ) → TriedIsPlace (code_of b) y (tried_code b y out) (decode_code b y out).out
unfolding decode_code tried_code
tried_is_place b y out k e =
    let (count, g, t) = after-given (decode_code b y out).answer _ k e in
    let (p, opens, ly, lo, h) = given_read (open_code b) (λ p. p.n) (λ p. p.q) (λ p. decode p y) y out count g in
    let s : tried (code_of b) y ≡ k = cc in
    let r = decodes b p opens y out ly lo h in
    let d = result-given (decode p y) out count (sym (ap (λ u. u.answer) r) ∙ g) in
    subst (GivenAt (code_of b) y (decode_code b y out).out) s
    (subst (λ (u : Code). GivenAt u y (decode_code b y out).out (tried u y)) (sym (opened b p opens).0)
    (subst (λ (x : List ℕ). GivenAt p y x (tried p y)) (sym (ap (λ u. u.out) r)) (given-at p y ly count _ d)))
