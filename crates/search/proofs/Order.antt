-- The patterns that are still to be tried, step by step, and the first of them that passes a test.
use mathlib.Core.Path.{◌≡◌, refl, sym, ap, ap₂, ◌∙◌}
use mathlib.Core.Bool.{Bool, true, false}
use mathlib.Core.List.{List, [], ◌∷◌, ◌++◌, append_assoc, append-nil}
use mathlib.Core.Option.{Option, none, some, some-ne-none}
use Prim.Native.Nat.{ℕ, zero, suc, ◌+◌, ◌-◌, ◌≤◌, ◌<◌}
use native.Mathlib.Nat.{add-zero, zero-add}
use native.Mathlib.Omega.{arith}
use lib.ListN.{length, length-append, replicate}
use Rattle.definitions.specs.Codes.{Code}
use Rattle.word_laws.proofs.PatternSplits as splits
use Rattle.candidate_patterns.specs.declared.Risen.{Risen}
use Rattle.candidate_patterns.specs.Candidates.{magnitude_of, magnitude_at, word_of, added, Chosen}
use Rattle.candidate_patterns.proofs.Choices.{of_here, of_other, added-at, word_more, word_same}
use Rattle.search.specs.Search.{cells_from, magnitudes_from, seek, pick_sought}

-- the words begun are the state of the split: a magnitude more is a cell more
abbrev more : List ℕ → ℕ → List ℕ
more w v = w ++ (v ∷ [])

abbrev ended : List ℕ → List ℕ → List ℕ
ended w e = w ++ e

step : (w : List ℕ) (v : ℕ) (e : List ℕ) → ended w (v ∷ e) ≡ ended (more w v) e
step w v e = sym (append_assoc w (v ∷ []) e)

-- the step of a cell
module _ (p : Code) (k : Risen) (left cell : ℕ) where
  pub cell_none : 1 ≤ left → p.n ≤ cell → cells_from p k left cell ≡ []
  unfolding cells_from
  cell_none one h = splits.no_cell more ended step p.l p.n (word_of cell k) left cell one h

  pub cell_more :
      1 ≤ left → cell < p.n → Chosen k left cell → cells_from p k left cell ≡ magnitudes_from p k left cell 0 ++ cells_from p k left (cell + 1)
  unfolding cells_from magnitudes_from
  cell_more one h s = rw (word_more cell k 0 (s.before cell (omega arith))) (splits.at_cell_lem more ended step p.l p.n (word_of cell k) left cell one h)

-- the step of a magnitude
module _ (p : Code) (k : Risen) (left cell mag : ℕ) where
  pub mag_none : p.l ≤ mag → magnitudes_from p k left cell mag ≡ []
  unfolding magnitudes_from
  mag_none h = splits.no_magnitude more ended step p.l p.n (word_of cell k) left cell mag h

  pub mag_more :
      mag < p.l → Chosen k left cell → 1 ≤ left
      → magnitudes_from p k left cell mag ≡ cells_from p (added k cell (mag + 1)) (left - 1) (cell + 1) ++ magnitudes_from p k left cell (mag + 1)
  unfolding cells_from magnitudes_from
  mag_more h s one =
      rw (word_more cell k' (mag + 1) here, word_same cell k' k below)
      (splits.at_magnitude more ended step p.l p.n (word_of cell k) left cell mag h)
    where
      k' : Risen
      k' = added k cell (mag + 1)

      z : magnitude_at k cell ≡ 0
      z = s.before cell (omega arith)

      plus : (i : ℕ) → magnitude_at (added k cell (mag + 1)) i ≡ magnitude_at k i + magnitude_of cell (mag + 1) i
      plus = added-at k s.three (s.free 2 (omega arith)) cell (mag + 1) z

      here : magnitude_at (added k cell (mag + 1)) cell ≡ mag + 1
      here = plus cell ∙ ap₂ ◌+◌ z (of_here cell (mag + 1) cell refl) ∙ zero-add (mag + 1)

      below : (i : ℕ) → i < cell → magnitude_at (added k cell (mag + 1)) i ≡ magnitude_at k i
      below i h = plus i ∙ ap (λ (v : ℕ). magnitude_at k i + v) (of_other cell (mag + 1) i (λ q. omega arith)) ∙ add-zero (magnitude_at k i)

-- no choice left: the one pattern
word-zeros : (k : Risen) (d cell : ℕ) → ((i : ℕ) → cell ≤ i → magnitude_at k i ≡ 0) → word_of cell k ++ replicate d 0 ≡ word_of (cell + d) k
word-zeros k zero cell z = append-nil (word_of cell k) ∙ ap (λ (c : ℕ). word_of c k) (sym (add-zero cell))
word-zeros k (suc d) cell z =
    step (word_of cell k) 0 (replicate d 0) ∙ ap (λ (w : List ℕ). w ++ replicate d 0) (sym (word_more cell k 0 (z cell (omega arith))))
    ∙ word-zeros k d (cell + 1) (λ i h. z i (omega arith)) ∙ ap (λ (c : ℕ). word_of c k) (let q : cell + 1 + d ≡ cell + suc d = omega arith in q)

pub all_chosen :
    (p : Code) (k : Risen) (left cell : ℕ) → left ≡ 0 → cell ≤ p.n → ((i : ℕ) → cell ≤ i → magnitude_at k i ≡ 0)
    → cells_from p k left cell ≡ word_of p.n k ∷ []
unfolding cells_from
all_chosen p k left cell e h z =
    splits.all_chosen more ended step p.l p.n (word_of cell k) left cell e
    ∙ ap (λ (x : List ℕ). x ∷ []) (word-zeros k (p.n - cell) cell z ∙ ap (λ (c : ℕ). word_of c k) (let q : cell + (p.n - cell) ≡ p.n = omega arith in q))

-- the first that passes, over a list in two parts
module _ (f : List ℕ → Bool) where
  unfoldable pub continued : Option (List ℕ) × ℕ → (ℕ → Option (List ℕ) × ℕ) → Option (List ℕ) × ℕ
  continued (none, t) g = g t
  continued (some e, t) g = (some e, t)

  continued_pick :
      (b : Bool) (e : List ℕ) (t : ℕ) (r : Option (List ℕ) × ℕ) (g : ℕ → Option (List ℕ) × ℕ)
      → pick_sought f b e t (continued r g) ≡ continued (pick_sought f b e t r) g
  unfolding continued
  continued_pick true e t r g = refl
  continued_pick false e t r g = refl

  pub continued_some : (e : List ℕ) (t : ℕ) (g : ℕ → Option (List ℕ) × ℕ) → continued (some e, t) g ≡ (some e, t)
  unfolding continued
  continued_some e t g = refl

  pub seek_append : (xs ys : List (List ℕ)) (t : ℕ) → seek f (xs ++ ys) t ≡ continued (seek f xs t) (seek f ys)
  unfolding seek continued
  seek_append [] ys t = refl
  seek_append (x ∷ xs) ys t =
      ap (pick_sought f (f x) x (t + 1)) (seek_append xs ys (t + 1)) ∙ continued_pick (f x) x (t + 1) (seek f xs (t + 1)) (seek f ys)

  pub seek_none : (t : ℕ) (es : List (List ℕ)) → es ≡ [] → (none, t) ≡ seek f es t
  unfolding seek
  seek_none t es e = rw e

  module _ (zs xs ys : List (List ℕ)) (t : ℕ) (z : zs ≡ xs ++ ys) where
    both : (o : Option (List ℕ) × ℕ) → o ≡ seek f xs t → seek f zs t ≡ continued o (seek f ys)
    both o e =
        ap (λ (l : List (List ℕ)). seek f l t) z ∙ seek_append xs ys t ∙ ap (λ (x : Option (List ℕ) × ℕ). continued x (seek f ys)) (sym e)

    pub seek_hit : (e : List ℕ) (u : ℕ) → (some e, u) ≡ seek f xs t → (some e, u) ≡ seek f zs t
    seek_hit e u q = sym (both (some e, u) q ∙ continued_some e u (seek f ys))

    pub seek_skip : (u : ℕ) → (none, u) ≡ seek f xs t → seek f zs t ≡ seek f ys u
    unfolding continued
    seek_skip u q = both (none, u) q

  -- one pattern before the others
  module _ (zs ys : List (List ℕ)) (x : List ℕ) (t : ℕ) (z : zs ≡ (x ∷ []) ++ ys) where
    pub one_hit : f x ≡ true → (some x, t + 1) ≡ seek f zs t
    unfolding seek
    one_hit h = rw (z, h)

    pub one_miss : f x ≡ false → seek f zs t ≡ seek f ys (t + 1)
    unfolding seek
    one_miss h = rw (z, h)

  -- how many are tried
  count_step :
      (b : Bool) (e : List ℕ) (t n u : ℕ) (r : Option (List ℕ) × ℕ)
      → (r ≡ (none, u) → u ≡ t + 1 + n) → pick_sought f b e (t + 1) r ≡ (none, u) → u ≡ t + suc n
  count_step true e t n u r h q = absurd (some-ne-none e (ap (λ (o : Option (List ℕ) × ℕ). o.0) q))
  count_step false e t n u r h q = let w = h q in omega arith

  pub all_tried : (xs : List (List ℕ)) (t u : ℕ) → seek f xs t ≡ (none, u) → u ≡ t + length xs
  unfolding seek
  all_tried [] t u e = let z : t ≡ u = ap (λ (o : Option (List ℕ) × ℕ). o.1) e in omega arith
  all_tried (x ∷ xs) t u e = count_step (f x) x t (length xs) u (seek f xs (t + 1)) (all_tried xs (t + 1) u) e

  -- room for the whole is room for the second part after the first
  pub room_next :
      (zs xs ys : List (List ℕ)) (t u b : ℕ) → zs ≡ xs ++ ys → t + length zs ≤ b → (none, u) ≡ seek f xs t → u + length ys ≤ b
  room_next zs xs ys t u b z h e =
      let l : length zs ≡ length xs + length ys = ap length z ∙ length-append xs ys in
      let c : u ≡ t + length xs = all_tried xs t u (sym e) in
      omega arith

pub room-first : (zs xs ys : List (List ℕ)) (t b : ℕ) → zs ≡ xs ++ ys → t + length zs ≤ b → t + length xs ≤ b
room-first zs xs ys t b z h = let l : length zs ≡ length xs + length ys = ap length z ∙ length-append xs ys in omega arith
