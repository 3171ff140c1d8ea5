-- How many bits the symbols have, and whether one after them is set.
use Rattle.std.proofs.Common.{◌≡◌, refl, sym, ap, ◌∙◌, not, List, ℕ, zero, suc, ◌+◌, ◌*◌, ◌-◌, ◌≤◌, arith}
use native.Mathlib.Nat.{add-zero, add-suc, zero-mul, suc-mul}
use lib.Dec.{eqb, ltb}
use borrow.Author.Tests.{lt-ltb, le-ltb, ne_eqb}
use Rattle.definitions.specs.Words.{sum_to}
use Rattle.definitions.specs.Codes.{Code}
use Rattle.definitions.specs.Packing.{width, bit_count, byte_count, symbol_at, leftover_set}
use Rattle.word_laws.proofs.Cells.{sum_same}
use Rattle.word_laws.proofs.BitLists.{symbol_zero}
use Rattle.bit_reader.specs.Taking.{width_in}
use Rattle.bit_reader.specs.declared.Layout.{Layout}

module _ (l : Layout) where
  leading_bits : (m : ℕ) → m ≤ l.leading → sum_to m (width_in l) ≡ m * l.wide
  leading_bits zero h = sym (zero-mul l.wide)
  leading_bits (suc m) h = rw (leading_bits m (omega arith), lt-ltb m l.leading h) (sym (suc-mul m l.wide))

  all_bits : (d : ℕ) → sum_to (l.leading + d) (width_in l) ≡ l.leading * l.wide + d * l.narrow
  all_bits zero = rw (add-zero, zero-mul, add-zero) (leading_bits l.leading (omega arith))
  all_bits (suc d) =
      rw (add-suc, all_bits d, le-ltb (l.leading + d) l.leading (omega arith), suc-mul) (regroup (l.leading * l.wide) (d * l.narrow) l.narrow)
    where
      regroup : (a b c : ℕ) → a + b + c ≡ a + (b + c)
      regroup a b c = omega arith

  -- all bits, of a code with this layout
  pub bits_sum :
      (p : Code)
      → l.n ≡ p.n
      → ((i : ℕ) → width p i ≡ width_in l i)
      → l.leading ≤ l.n
      → l.leading * l.wide + (l.n - l.leading) * l.narrow ≡ bit_count p
  unfolding bit_count
  bits_sum p n w h =
      let e : l.leading + (l.n - l.leading) ≡ p.n = omega arith in
      sym (all_bits (l.n - l.leading)) ∙ ap (λ (m : ℕ). sum_to m (width_in l)) e ∙ sym (sum_same p.n (width p) (width_in l) (λ j _. w j))

-- the number that the leftover bits make
pub leftover_number :
    (p : Code) (bytes : List ℕ) {v : ℕ}
    → v ≡ symbol_at bytes (bit_count p) (8 * byte_count p - bit_count p)
    → ltb 0 v ≡ leftover_set p bytes
unfolding leftover_set
leftover_number p bytes {v} s =
    positive v ∙ ap (λ (x : ℕ). not (eqb x 0)) s ∙ sym (ap not (symbol_zero bytes (bit_count p) (8 * byte_count p - bit_count p)))
  where
    positive : (x : ℕ) → ltb 0 x ≡ not (eqb x 0)
    positive zero = refl
    positive (suc x) = lt-ltb 0 (suc x) (omega arith) ∙ sym (ap not (ne_eqb (suc x) 0 (λ e. omega arith)))
