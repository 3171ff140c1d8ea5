-- What holds while symbols are taken.
use mathlib.Core.Path.{◌≡◌, sym, ap, ◌∙◌}
use mathlib.Core.Bool.{Bool, true, false, cond}
use mathlib.Core.List.{List, map}
use Prim.Native.Nat.{ℕ, zero, suc, ◌*◌, ◌≤◌, ◌<◌}
use native.Mathlib.Nat.{zero-add}
use native.Mathlib.Omega.{arith}
use lib.Dec.{ltb}
use lib.ListN.{length, length-map}
use lib.Seq.{ext_get_or}
use Rattle.definitions.specs.Words.{at, sum_to, up_from}
use Rattle.definitions.specs.Packing.{symbol_at}
use Rattle.word_laws.proofs.Cells.{at-up_from, length-up_from}
use Rattle.bit_reader.specs.Taking.{width_in, Narrow, taken}
use Rattle.bit_reader.specs.declared.Layout.{Layout}

module _ (l : Layout) where
  module _ (small : Narrow l) where
    pub width_small : (i : ℕ) → width_in l i ≤ 8
    width_small i = by (ltb i l.leading)
      where
        by : (b : Bool) → cond b l.wide l.narrow ≤ 8
        by true = small.wide
        by false = small.narrow

    -- bits are counted to 512
    pub next_small : (i : ℕ) → sum_to i (width_in l) ≤ 8 * i
    next_small zero = omega arith
    next_small (suc i) = let a = next_small i in let b = width_small i in omega arith

  -- the symbol of each cell stands in it
  pub all_taken : (bytes x : List ℕ) → length x ≡ l.n
      → ((i : ℕ) → i < l.n → at x i ≡ symbol_at bytes (sum_to i (width_in l)) (width_in l i)) → x ≡ taken l bytes
  unfolding taken
  all_taken bytes x long each = ext_get_or 0 x (map symbol (up_from 0 l.n)) (long ∙ sym number) same
    where
      symbol : ℕ → ℕ
      symbol i = symbol_at bytes (sum_to i (width_in l)) (width_in l i)

      number : length (map symbol (up_from 0 l.n)) ≡ l.n
      number = length-map (up_from 0 l.n) symbol ∙ length-up_from 0 l.n

      same : (i : ℕ) → i < length x → at x i ≡ at (map symbol (up_from 0 l.n)) i
      same i h = each i (omega arith) ∙ sym (at-up_from symbol 0 l.n i (omega arith) ∙ ap symbol (zero-add i))
