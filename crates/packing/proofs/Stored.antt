-- What the operations write.
use Rattle.std.proofs.Common.{◌≡◌, map, sym, ap, ◌∙◌, subst, true, cond, List, ℕ, ◌^◌, ◌<◌, arith}
use mathlib.Core.Path.{fun_ext}
use native.Mathlib.Decide.{dec_lt}
use borrow.Author.Tests.{le-leb, lt-leb}
use lib.Dec.{T}
use Rattle.definitions.specs.Words.{at, sum_to, up_from}
use Rattle.definitions.specs.Codes.{Code}
use Rattle.definitions.specs.Messages.{Message}
use Rattle.definitions.specs.Packing.{packable, width, bit_count, byte_count, bytes_of, bits_of, symbol_at, is_leftover, pack, unpack}
use Rattle.word_laws.proofs.Cells.{at-past}
use Rattle.word_laws.proofs.BitLists.{bytes_same, bits_long}
use Rattle.code_theorems.proofs.Packing.{below-radix, radix_power}
use Rattle.bit_reader.specs.Taking.{width_in, taken}
use Rattle.bit_reader.specs.declared.Layout.{Layout}

module _ (p : Code) where
  -- no symbol has a bit past the last
  pub packs : (s : List ℕ) → bytes_of (byte_count p) (at (bits_of (width p) s p.n)) ≡ pack p s
  unfolding pack bit_count
  packs s =
      bytes_same (byte_count p) (at (bits_of (width p) s p.n)) (λ k. cond (is_leftover p k) 0 (at (bits_of (width p) s p.n) k))
      (λ k _. step k (dec_lt k (bit_count p)))
    where
      step : (k : ℕ) → Dec (k < bit_count p) → at (bits_of (width p) s p.n) k ≡ cond (is_leftover p k) 0 (at (bits_of (width p) s p.n) k)
      step k (yes h) = rw (lt-leb (bit_count p) k h)
      step k (no h) =
          let l = bits_long (width p) s p.n in
          rw (le-leb (bit_count p) k (omega arith)) (at-past (bits_of (width p) s p.n) k (omega arith))

  -- of a code with the layout l
  module _ (l : Layout) (n : l.n ≡ p.n) (w : (i : ℕ) → width p i ≡ width_in l i) where
    pub widths : width_in l ≡ width p
    widths = fun_ext (λ i. sym (w i))

    pub symbol_fits : packable p ≡ true → (s : List ℕ) → Message p s → (i : ℕ) → i < l.n → at s i < 2 ^ width_in l i
    symbol_fits powers s m i h =
        let radix = radix_power p (subst T (sym powers) tt) i in
        subst (λ (x : ℕ). at s i < 2 ^ x) (w i) (subst (λ (x : ℕ). at s i < x) radix (below-radix p s m i (omega arith)))

    pub packed : (s : List ℕ) {m : ℕ} → m ≡ byte_count p → bytes_of m (at (bits_of (width_in l) s l.n)) ≡ pack p s
    packed s e = rw (e, widths, n) (packs s)

    pub unpacked : (bytes : List ℕ) → taken l bytes ≡ unpack p bytes
    unfolding taken unpack
    unpacked bytes =
        ap (λ (v : ℕ → ℕ). map (λ i. symbol_at bytes (sum_to i v) (v i)) (up_from 0 l.n)) widths
        ∙ ap (λ (k : ℕ). map (λ i. symbol_at bytes (sum_to i (width p)) (width p i)) (up_from 0 k)) n
