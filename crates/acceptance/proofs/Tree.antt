-- Digital search trees: the walk from a key's bucket to its slot, and the tree with one key more.
use mathlib.Core.Path.{◌≡◌, refl, sym, ap, ap₂, ◌∙◌, subst}
use mathlib.Core.Logic.{◌⊎◌, inl, inr}
use mathlib.Core.List.{List}
use Prim.Native.Nat.{ℕ, zero, suc, ◌+◌, ◌*◌, ◌-◌, ◌%◌, ◌≤◌, ◌<◌}
use native.Mathlib.Nat.{eq-or-lt_of_le, mod-lt}
use native.Mathlib.Decide.{dec_lt}
use native.Mathlib.Omega.{arith}
use lib.ListN.{length, set, replicate}
use lib.Seq.{get_or-set_same, get_or-set_other}
use Rattle.definitions.specs.Words.{at}
use Rattle.word_laws.proofs.Filling.{zeros-at}
use Rattle.acceptance.specs.declared.different.Bits.{Bits}
use Rattle.acceptance.specs.Tree.{bucket_of, bits_of, next_bits, child_of, bits_after, slot_after, Reaches, Tree, SlotOf}

-- a step leads further on
pub further : {keys slots : List ℕ} {n : ℕ} → Tree keys slots n → (s j r x : ℕ) → j ≡ at slots s → (j ≡ 0 → ⊥) → r ≡ child_of j x
    → (j ≤ n) × (s < r) × (r < 4096 + 2 * n)
further tree s j r x e z q =
    let (a, b) = tree.forward s (λ u. z (e ∙ u)) in
    let h : x % 2 < 2 = mod-lt x (omega arith) in
    (omega arith, omega arith, omega arith)

-- the walk at slot s: the slots passed hold other keys; x has the bits that come next
pub record Walk (keys slots : List ℕ) (key s : ℕ) (x : Bits) : Type 0 where
  pub steps : ℕ
  pub there : s ≡ slot_after slots key steps
  pub bits : x ≡ bits_after key steps
  pub full : (k : ℕ) → k < steps → at slots (slot_after slots key k) ≡ 0 → ⊥
  pub others : (k : ℕ) → k < steps → at keys (at slots (slot_after slots key k) - 1) ≡ key → ⊥

module _ (keys slots : List ℕ) (key : ℕ) where
  pub walk_start : (s : ℕ) (x : Bits) → s ≡ bucket_of key → x ≡ bits_of key → Walk keys slots key s x
  unfolding slot_after bits_after
  walk_start s x e b =
      record {
        steps = 0;
        there = e;
        bits = b;
        full = λ k h. absurd (omega arith);
        others = λ k h. absurd (omega arith);
      }

  -- a property of each step so far and of this one
  step_more : (P : ℕ → Type 0) (n : ℕ) → ((k : ℕ) → k < n → P k) → P n → (k : ℕ) → k < suc n → P k
  step_more P n h g k l = by (eq-or-lt_of_le l)
    where
      by : (suc k ≡ suc n) ⊎ (suc k < suc n) → P k
      by (inl e) = let q : n ≡ k = omega arith in subst P q g
      by (inr m) = h k (omega arith)

  module _ (s : ℕ) (x : Bits) (w : Walk keys slots key s x) where
    walk_reaches : Reaches slots key s
    walk_reaches = record { steps = w.steps; there = w.there; full = w.full }

    -- a slot that holds the number j of another key
    module _ (j : ℕ) (e : j ≡ at slots s) (z : j ≡ 0 → ⊥) where
      pub walk_on : (at keys (j - 1) ≡ key → ⊥) → (r : ℕ) → r ≡ child_of j x.next → (y : Bits) → y ≡ next_bits x → Walk keys slots key r y
      unfolding slot_after bits_after
      walk_on o r q y f =
          record {
            steps = suc w.steps;
            there = q ∙ ap₂ child_of held (ap (λ (b : Bits). b.next) w.bits);
            bits = f ∙ ap next_bits w.bits;
            full = step_more (λ k. at slots (slot_after slots key k) ≡ 0 → ⊥) w.steps w.full (λ u. z (held ∙ u));
            others = step_more (λ k. at keys (at slots (slot_after slots key k) - 1) ≡ key → ⊥) w.steps w.others
                (λ u. o (ap (λ (v : ℕ). at keys (v - 1)) held ∙ u));
          }
        where
          held : j ≡ at slots (slot_after slots key w.steps)
          held = e ∙ ap (at slots) w.there

    -- an empty slot: were the key in the tree, the walk would have passed it
    pub walk_free : (n : ℕ) → s < 4096 + 2 * n → at slots s ≡ 0 → Tree keys slots n → SlotOf keys slots n key s
    walk_free n h z tree =
        record {
          within = h;
          reaches = walk_reaches;
          found = λ g. absurd (g z);
          free = λ g. none;
        }
      where
        passed : (i r : ℕ) → Reaches slots key r → at slots r ≡ i + 1 → at keys i ≡ key → ⊥
        passed i r g e t = by (dec_lt g.steps w.steps) (dec_lt w.steps g.steps)
          where
            held : at slots (slot_after slots key g.steps) ≡ i + 1
            held = ap (at slots) (sym g.there) ∙ e

            by : Dec (g.steps < w.steps) → Dec (w.steps < g.steps) → ⊥
            by (yes l) d =
                let q : at slots (slot_after slots key g.steps) - 1 ≡ i = omega (arith, held) in
                w.others g.steps l (ap (at keys) q ∙ t)
            by (no l) (yes d) = g.full w.steps d (ap (at slots) (sym w.there) ∙ z)
            by (no l) (no d) =
                let q : g.steps ≡ w.steps = omega arith in
                let u : at slots s ≡ i + 1 = ap (at slots) (w.there ∙ ap (slot_after slots key) (sym q)) ∙ held in
                omega arith

        none : (i : ℕ) → i < n → at keys i ≡ key → ⊥
        none i l t = let (r, g, e) = tree.placed i l in passed i r (subst (λ (k : ℕ). Reaches slots k r) t g) e t

-- an empty slot is filled
module _ (slots : List ℕ) (r v : ℕ) (z : at slots r ≡ 0) where
  other_slot : (s : ℕ) → (at slots s ≡ 0 → ⊥) → at (set slots r v) s ≡ at slots s
  other_slot s h = get_or-set_other slots r s v 0 (λ e. h (ap (at slots) e ∙ z))

  module _ (key : ℕ) where
    slot_kept : (n : ℕ) → ((k : ℕ) → k < n → at slots (slot_after slots key k) ≡ 0 → ⊥) → slot_after (set slots r v) key n ≡ slot_after slots key n
    unfolding slot_after
    slot_kept zero h = refl
    slot_kept (suc n) h =
        ap (λ (j : ℕ). child_of j (bits_after key n).next)
        (ap (at (set slots r v)) (slot_kept n (λ k l. h k (omega arith))) ∙ other_slot (slot_after slots key n) (h n (omega arith)))

    reaches-kept : (s : ℕ) → Reaches slots key s → Reaches (set slots r v) key s
    reaches-kept s g =
        record {
          steps = g.steps;
          there = g.there ∙ sym (slot_kept g.steps g.full);
          full = λ k l e. g.full k l
              (sym (ap (at (set slots r v)) (slot_kept k (λ i h. g.full i (omega arith))) ∙ other_slot (slot_after slots key k) (g.full k l)) ∙ e);
        }

module _ (keys slots : List ℕ) (n : ℕ) (tree : Tree keys slots n) where
  pub tree_more : (r v : ℕ) → v ≡ n + 1 → r < length slots → at slots r ≡ 0
      → SlotOf keys slots n (at keys n) r → Tree keys (set slots r v) (n + 1)
  tree_more r v e h z slot = record { forward = forward; placed = placed }
    where
      filled : at (set slots r v) r ≡ n + 1
      filled = get_or-set_same slots r v 0 h ∙ e

      forward : (s : ℕ) → (at (set slots r v) s ≡ 0 → ⊥) → (at (set slots r v) s ≤ n + 1) × (s < 4094 + 2 * at (set slots r v) s)
      forward s f = by (dec_lt r s) (dec_lt s r)
        where
          old : (s ≡ r → ⊥) → (at (set slots r v) s ≤ n + 1) × (s < 4094 + 2 * at (set slots r v) s)
          old d =
              let q : at (set slots r v) s ≡ at slots s = get_or-set_other slots r s v 0 d in
              let (b, c) = tree.forward s (λ u. f (q ∙ u)) in
              rw q (omega arith, c)

          by : Dec (r < s) → Dec (s < r) → (at (set slots r v) s ≤ n + 1) × (s < 4094 + 2 * at (set slots r v) s)
          by (yes l) d = old (λ q. omega arith)
          by (no l) (yes d) = old (λ q. omega arith)
          by (no l) (no d) =
              let q : s ≡ r = omega arith in
              rw (q, filled) (omega arith, omega (arith, slot.within))

      placed : (i : ℕ) → i < n + 1 → (s : ℕ) × Reaches (set slots r v) (at keys i) s × (at (set slots r v) s ≡ i + 1)
      placed i l = by (dec_lt i n)
        where
          by : Dec (i < n) → (s : ℕ) × Reaches (set slots r v) (at keys i) s × (at (set slots r v) s ≡ i + 1)
          by (yes d) =
              let (s, g, q) = tree.placed i d in
              (s, reaches-kept slots r v z (at keys i) s g, other_slot slots r v z s (λ u. omega arith) ∙ q)
          by (no d) =
              let q : i ≡ n = omega arith in
              rw q (r, reaches-kept slots r v z (at keys n) r slot.reaches, filled)

pub tree_none : (keys : List ℕ) (k : ℕ) → Tree keys (replicate k 0) 0
tree_none keys k = record { forward = λ s h. absurd (h (zeros-at k s)); placed = λ i h. absurd (omega arith) }
