-- The table of last cells: marked magnitude by magnitude and cell by cell, and what it rules out.
use mathlib.Core.Path.{◌≡◌, sym, ap, ◌∙◌}
use mathlib.Core.List.{List}
use Prim.Native.Nat.{ℕ, ◌+◌, ◌≤◌, ◌<◌}
use native.Mathlib.Decide.{dec_lt}
use native.Mathlib.Omega.{arith}
use lib.ListN.{set, length-set}
use lib.Seq.{get_or-set_same, get_or-set_other}
use Rattle.std.specs.Prelude.{Option, Some, None, IfSome, IsSomeAnd}
use Rattle.std.proofs.Common.{Bor}
use Rattle.definitions.specs.Words.{at}
use Rattle.definitions.specs.Codes.{Code}
use Rattle.search_filters.specs.Filters.{times_of, multiple_of, NoneFrom, hash_of, LastCells, Marked}

pub hash_same : (f g : ℕ → ℕ) → ((i : ℕ) → f i ≡ g i) → hash_of f ≡ hash_of g
hash_same f g h = rw (h 0, h 1, h 2, h 3, h 4, h 5, h 6, h 7, h 8, h 9, h 10, h 11)

-- a hash at which no cell from the given one on stands
pub ruled_out : (p : Code) (last rest : List ℕ) (cell : ℕ) → LastCells p last → at last (hash_of (at rest)) ≤ cell → NoneFrom p cell rest
ruled_out p last rest cell table past c from h g low high same =
    let later : c < at last (hash_of (at rest)) = rw (← hash_same (multiple_of p c g) (at rest) same) (table.above c g h low high) in
    omega arith

pub table_rules_out :
    (p : Code) (last : Option (Bor (List ℕ))) (rest : List ℕ) (cell : ℕ) → IfSome last (λ x. LastCells p x.now)
    → IsSomeAnd last (λ x. at x.now (hash_of (at rest)) ≤ cell) → NoneFrom p cell rest
table_rules_out p None rest cell table past = absurd past
table_rules_out p (Some x) rest cell table past = ruled_out p x.now rest cell table past

dec_eq : (a b : ℕ) → Dec (a ≡ b)
dec_eq a b = by (dec_lt a b) (dec_lt b a)
  where
    by : Dec (a < b) → Dec (b < a) → Dec (a ≡ b)
    by (yes l) m = no (λ q. omega arith)
    by (no l) (yes m) = no (λ q. omega arith)
    by (no l) (no m) = yes (omega arith)

-- the multiples of a column, one after the other
module _
    (f : ℕ → ℕ) (M c mag : ℕ) (last last' : List ℕ) (m : Marked f M c mag last last') (h v : ℕ) (inside : h < 4096) (ev : v ≡ c + 1)
    (eh : h ≡ hash_of (times_of M f (mag + 1))) where
  after : List ℕ
  after = set last' h v

  same : (j : ℕ) → j ≡ h → at after j ≡ c + 1
  unfolding after
  same j e = rw e (get_or-set_same last' h v 0 (omega (arith, m.long)) ∙ ev)

  other : (j : ℕ) → (j ≡ h → ⊥) → at after j ≡ at last' j
  unfolding after
  other j e = get_or-set_other last' h j v 0 e

  by_below : (j : ℕ) → Dec (j ≡ h) → at after j ≤ c + 1
  by_below j (yes e) = let z = same j e in omega arith
  by_below j (no e) = let z = other j e in let b = m.below j in omega arith

  by_kept : (j : ℕ) → Dec (j ≡ h) → at last j ≤ at after j
  by_kept j (yes e) = let z = same j e in let b = m.below j in let k = m.kept j in omega arith
  by_kept j (no e) = let z = other j e in let k = m.kept j in omega arith

  by_here : (g : ℕ) → 1 ≤ g → g ≤ mag + 1 → Dec (hash_of (times_of M f g) ≡ h) → c < at after (hash_of (times_of M f g))
  by_here g a z (yes e) = let w = same (hash_of (times_of M f g)) e in omega arith
  by_here g a z (no e) =
      let w = other (hash_of (times_of M f g)) e in
      let ne : g ≡ mag + 1 → ⊥ = (λ q. e (ap (λ (x : ℕ). hash_of (times_of M f x)) q ∙ sym eh)) in
      let less : g ≤ mag = omega arith in
      let k = m.here g a less in
      omega arith

  pub marked_more : Marked f M c (mag + 1) last (set last' h v)
  unfolding after
  marked_more = record {
    long = simp length-set m.long;
    below = λ j. by_below j (dec_eq j h);
    kept = λ j. by_kept j (dec_eq j h);
    here = λ g a z. by_here g a z (dec_eq (hash_of (times_of M f g)) h);
  }

-- the cells before c are marked
abbrev pub MarkedBefore : Code → ℕ → List ℕ → Type 0
MarkedBefore p c last = (c' g : ℕ) → c' < c → 1 ≤ g → g ≤ p.l → c' < at last (hash_of (multiple_of p c' g))
