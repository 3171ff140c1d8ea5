-- The list of all patterns: its parts by weight, its length, and the first of it that passes a test.
use mathlib.Core.Path.{◌≡◌, refl, sym, ap, ap₂, ◌∙◌, subst}
use mathlib.Core.Bool.{Bool, true, false, cond}
use mathlib.Core.List.{List, [], ◌∷◌, ◌++◌, map-id, Memᴰ}
use mathlib.Core.Option.{Option, none, some, none-ne-some}
use Prim.Native.Nat.{ℕ, zero, suc, ◌+◌, ◌-◌, ◌≤◌, ◌<◌}
use native.Mathlib.Nat.{sub-zero, zero-add}
use native.Mathlib.Numerals.{sub-one}
use native.Mathlib.Decide.{dec_lt}
use native.Mathlib.Omega.{arith}
use lib.ListN.{length, length-append}
use Rattle.definitions.specs.Words.{up_from, weight}
use Rattle.definitions.specs.Codes.{Code}
use Rattle.definitions.specs.Patterns.{of_weight, patterns, magnitudes, patterns_of, pattern_count}
use Rattle.definitions.specs.Decoding.{first, pick_first}
use Rattle.definitions.specs.Tried.{place_of_first}
use Rattle.word_laws.proofs.PatternList.{of_weight_shape}
use Rattle.code_theorems.proofs.Acceptance.{magnitude_pos, patterns-number}
use Rattle.candidate_patterns.specs.declared.Risen.{Risen}
use Rattle.candidate_patterns.specs.Candidates.{word_of, unrisen}
use Rattle.std.proofs.Common.{Break}
use Rattle.std.specs.Prelude.{Some, None}
use Rattle.search.specs.Search.{cells_from, seek, pick_sought, sought_as, found_word, CountsOf}
use Rattle.candidate_patterns.proofs.Choices.{unrisen-at}
use Rattle.search.proofs.Order.{continued_some, seek_append, continued, all_chosen}

-- what is found is in the list
found_member : (f : List ℕ → Bool) (es : List (List ℕ)) (t : ℕ) (e : List ℕ) (u : ℕ) → seek f es t ≡ (some e, u) → Memᴰ e es
unfolding seek
found_member f [] t e u q = absurd (none-ne-some e (ap (λ (o : Option (List ℕ) × ℕ). o.0) q))
found_member f (x ∷ es) t e u q = step (f x) q (λ (r : seek f es (t + 1) ≡ (some e, u)). found_member f es (t + 1) e u r)
  where
    step : (b : Bool) → pick_sought f b x (t + 1) (seek f es (t + 1)) ≡ (some e, u) → (seek f es (t + 1) ≡ (some e, u) → Memᴰ e es) → Memᴰ e (x ∷ es)
    step true r ih = let s : some x ≡ some e = ap (λ (o : Option (List ℕ) × ℕ). o.0) r in let z : e ≡ x = cc in Memᴰ.head z
    step false r ih = Memᴰ.tail (ih r)

-- and has the list's weight
found-weight : (l w n : ℕ) (f : List ℕ → Bool) (t : ℕ) (e : List ℕ) (u : ℕ) → seek f (of_weight (up_from 1 l) w n) t ≡ (some e, u) → weight e ≡ w
found-weight l w n f t e u q = (of_weight_shape (up_from 1 l) (magnitude_pos l) w n e (found_member f (of_weight (up_from 1 l) w n) t e u q)).2

-- the search from the first cell is the patterns of a weight
module _ (p : Code) where
  pub from_first : (w : ℕ) → cells_from p unrisen w 0 ≡ of_weight (magnitudes p) w p.n
  unfolding cells_from word_of
  from_first w = map-id (of_weight (magnitudes p) w (p.n - 0)) ∙ ap (of_weight (magnitudes p) w) (sub-zero p.n)

  -- the patterns with at most w risen cells
  abbrev pub up_to : ℕ → List (List ℕ)
  up_to w = patterns (magnitudes p) w p.n

  -- the part of weight w comes after those of less
  split : (w : ℕ) → 1 ≤ w → up_to w ≡ up_to (w - 1) ++ cells_from p unrisen w 0
  split zero h = absurd (omega arith)
  split (suc w) h = ap₂ {C = List (List ℕ)} (λ v l. up_to v ++ l) (sym (sub-one (suc w))) (sym (from_first (suc w)))

  grown : (w t : ℕ) → w ≤ t → (b : ℕ) → length (up_to t) ≤ b → length (up_to w) ≤ b
  grown w zero h b g = let e : w ≡ 0 = omega arith in rw e g
  grown w (suc t) h b g = step (dec_lt w (suc t)) (λ (l : length (up_to t) ≤ b) (k : w ≤ t). grown w t k b l)
    where
      step : Dec (w < suc t) → (length (up_to t) ≤ b → w ≤ t → length (up_to w) ≤ b) → length (up_to w) ≤ b
      step (yes l) ih = ih (let q = length-append (up_to t) (of_weight (magnitudes p) (suc t) p.n) in omega arith) (omega arith)
      step (no l) ih = let e : w ≡ suc t = omega arith in rw e g

  pub room_all : (w tried : ℕ) → 1 ≤ w → w ≤ p.t → tried ≡ length (up_to (w - 1)) → pattern_count p ≤ 4096 → tried + length (cells_from p unrisen w 0) ≤ 4096
  unfolding patterns_of
  room_all w tried one h e b =
      let g : length (up_to w) ≤ 4096 = grown w p.t h 4096 (let c = patterns-number p in omega arith) in
      let s : length (up_to w) ≡ length (up_to (w - 1)) + length (cells_from p unrisen w 0) =
      ap length (split w one) ∙ length-append (up_to (w - 1)) (cells_from p unrisen w 0) in
      omega arith

  module _ (f : List ℕ → Bool) where
    pub none_tried : f (word_of p.n unrisen) ≡ false → seek f (up_to 0) 0 ≡ (none, 1)
    unfolding seek
    none_tried h = ap (λ (l : List (List ℕ)). seek f l 0) one ∙ (rw h)
      where
        one : up_to 0 ≡ word_of p.n unrisen ∷ []
        one = sym (from_first 0) ∙ all_chosen p unrisen 0 0 refl (omega arith) (λ i _. unrisen-at i)

    pub unrisen-passes : f (word_of p.n unrisen) ≡ true → seek f (up_to 0) 0 ≡ (some (word_of p.n unrisen), 1)
    unfolding seek
    unrisen-passes h = ap (λ (l : List (List ℕ)). seek f l 0) (sym (from_first 0) ∙ all_chosen p unrisen 0 0 refl (omega arith) (λ i _. unrisen-at i)) ∙ (rw h)

    pub weight_done :
        (w tried : ℕ) → 1 ≤ w → seek f (up_to (w - 1)) 0 ≡ (none, tried)
        → (o : Option (List ℕ) × ℕ) → o ≡ seek f (cells_from p unrisen w 0) tried → seek f (up_to w) 0 ≡ o
    unfolding continued
    weight_done w tried one e o q =
        ap (λ (l : List (List ℕ)). seek f l 0) (split w one) ∙ seek_append f (up_to (w - 1)) (cells_from p unrisen w 0) 0
        ∙ ap (λ (x : Option (List ℕ) × ℕ). continued f x (seek f (cells_from p unrisen w 0))) e ∙ sym q

    -- what is found among fewer risen cells is found among all
    pub found_early : (w t : ℕ) (e : List ℕ) (u : ℕ) → w ≤ t → seek f (up_to w) 0 ≡ (some e, u) → seek f (up_to t) 0 ≡ (some e, u)
    found_early w zero e u h q = let z : w ≡ 0 = omega arith in subst (λ (v : ℕ). seek f (up_to v) 0 ≡ (some e, u)) z q
    found_early w (suc t) e u h q = step (dec_lt w (suc t)) (λ (k : w ≤ t). found_early w t e u k q)
      where
        grow : seek f (up_to t) 0 ≡ (some e, u) → seek f (up_to (suc t)) 0 ≡ (some e, u)
        grow r =
            seek_append f (up_to t) (of_weight (magnitudes p) (suc t) p.n) 0
            ∙ ap (λ (x : Option (List ℕ) × ℕ). continued f x (seek f (of_weight (magnitudes p) (suc t) p.n))) r ∙ kept
          where
            kept : continued f (some e, u) (seek f (of_weight (magnitudes p) (suc t) p.n)) ≡ (some e, u)
            kept = continued_some f e u (seek f (of_weight (magnitudes p) (suc t) p.n))

        step : Dec (w < suc t) → (w ≤ t → seek f (up_to t) 0 ≡ (some e, u)) → seek f (up_to (suc t)) 0 ≡ (some e, u)
        step (yes l) ih = grow (ih (omega arith))
        step (no l) ih = let z : w ≡ suc t = omega arith in subst (λ (v : ℕ). seek f (up_to v) 0 ≡ (some e, u)) z q

-- the first and its place
module _ (f : List ℕ → Bool) where
  pub seek-first : (es : List (List ℕ)) (t : ℕ) → (seek f es t).0 ≡ first f es
  unfolding seek
  seek-first [] t = refl
  seek-first (e ∷ es) t = step (f e) (seek-first es (t + 1))
    where
      step : (b : Bool) → (seek f es (t + 1)).0 ≡ first f es → (pick_sought f b e (t + 1) (seek f es (t + 1))).0 ≡ pick_first b e (first f es)
      step true q = refl
      step false q = q

  pub seek-place : (es : List (List ℕ)) (t : ℕ) (e : List ℕ) (u : ℕ) → seek f es t ≡ (some e, u) → u ≡ t + place_of_first f es
  unfolding seek
  seek-place [] t e u q = absurd (none-ne-some e (ap (λ (o : Option (List ℕ) × ℕ). o.0) q))
  seek-place (x ∷ es) t e u q = step (f x) q (λ (r : seek f es (t + 1) ≡ (some e, u)). seek-place es (t + 1) e u r)
    where
      step :
          (b : Bool) → pick_sought f b x (t + 1) (seek f es (t + 1)) ≡ (some e, u)
          → (seek f es (t + 1) ≡ (some e, u) → u ≡ t + 1 + place_of_first f es) → u ≡ t + cond b 1 (suc (place_of_first f es))
      step true r ih = sym (ap (λ (o : Option (List ℕ) × ℕ). o.1) r)
      step false r ih = let h = ih r in omega arith

-- the answers
module _ (p : Code) (f : List ℕ → Bool) where
  first_of : (o : Option (List ℕ)) (u : ℕ) → seek f (up_to p p.t) 0 ≡ (o, u) → o ≡ first f (patterns_of p)
  unfolding patterns_of
  first_of o u q = sym (ap (λ (x : Option (List ℕ) × ℕ). x.0) q) ∙ seek-first f (up_to p p.t) 0

  pub answer_none : (u : ℕ) → seek f (up_to p p.t) 0 ≡ (none, u) → found_word p.n None ≡ first f (patterns_of p)
  answer_none u q = first_of none u q

  module _ (k : Risen) (w v u : ℕ) (le : v ≤ p.t) (q : seek f (up_to p v) 0 ≡ (some (word_of p.n k), u)) where
    all : seek f (up_to p p.t) 0 ≡ (some (word_of p.n k), u)
    all = found_early p f v p.t (word_of p.n k) u le q

    pub answer-found : found_word p.n (Some (record { risen = k; count = w; tried = u })) ≡ first f (patterns_of p)
    answer-found = first_of (some (word_of p.n k)) u all

    pub answer_counts : w ≡ weight (word_of p.n k) → CountsOf p f (Some (record { risen = k; count = w; tried = u }))
    unfolding patterns_of
    answer_counts e = (e, seek-place f (up_to p p.t) 0 (word_of p.n k) u all ∙ zero-add (place_of_first f (up_to p p.t)))

  pub found_weighs : (w t : ℕ) (k : Risen) (u : ℕ) → sought_as p.n (Break (k, u)) ≡ seek f (cells_from p unrisen w 0) t → w ≡ weight (word_of p.n k)
  found_weighs w t k u q =
      sym (found-weight p.l w p.n f t (word_of p.n k) u
      (ap (λ (l : List (List ℕ)). seek f l t) (sym (from_first p w)) ∙ sym q))

  -- the empty pattern, tried first
  pub unrisen_weighs : f (word_of p.n unrisen) ≡ true → 0 ≡ weight (word_of p.n unrisen)
  unrisen_weighs h =
      sym (found-weight p.l 0 p.n f 0 (word_of p.n unrisen) 1 (unrisen-passes p f h))
