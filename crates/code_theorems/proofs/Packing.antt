-- Messages and the bytes that they travel as: one is got back from the other.
use mathlib.Core.Path.{◌≡◌, refl, sym, ap, ◌∙◌, subst}
use mathlib.Core.Bool.{Bool, true, false, cond, not}
use mathlib.Core.List.{List}
use mathlib.Core.Option.{none-ne-some}
use Prim.Native.Nat.{ℕ, zero, suc, ◌+◌, ◌*◌, ◌-◌, ◌/◌, ◌%◌, ◌^◌, ◌≤◌, ◌<◌}
use native.Mathlib.Nat.{zero-add}
use native.Mathlib.Decide.{dec_lt}
use native.Mathlib.Omega.{arith}
use lib.Dec.{T, ltb}
use lib.ListN.{length, take, drop, length-map, length-drop}
use lib.Seq.{ext_get_or, get_or-take, get_or-drop, length-take-le}
use borrow.Author.Tests.{lt-ltb, le-ltb, le-leb, lt-leb, eq-eqb, not-true, not-false}
use Rattle.definitions.specs.Words.{at, sum_to, up_from, all_zero}
use Rattle.definitions.specs.Answers.{given, refused, gives, refuse◌when◌else◌}
use Rattle.definitions.specs.Codes.{Code, data_cells}
use Rattle.definitions.specs.Messages.{Message, symbols_fit, encode, message}
use Rattle.definitions.specs.CodeOperations.{open_code, encode_code}
use Rattle.definitions.specs.PowersOfTwo.{log2, is_power_of_two}
use Rattle.definitions.specs.Packing.{radix, packable, width, bit_count, byte_count, bit_of, bytes_of, bits_of, symbol_at, is_leftover, pack, unpack}
use Rattle.definitions.specs.Packing.{leftover_bits, Leftover, leftover_set, Bytes, MessageBytes, BytesOneToOne}
use Rattle.definitions.specs.PackingOperations.{open_packable, pack_code, unpack_code, Packed, MessageTaken, Unpacked}
use Rattle.definitions.proofs.Tests.{and_left, and_right}
use Rattle.word_laws.proofs.Cells.{each_at, at_each, at-up_from, length-up_from, up_from_bounds, up_from_mem, zero-map, map-zero, some_map}
use Rattle.word_laws.proofs.PowersOfTwo.{power_is}
use Rattle.word_laws.proofs.Bits.{Bits, bits_below}
use Rattle.word_laws.proofs.BitLists.{bytes_long, bytes_same, bytes_small, bytes_back, bit_of-small, bit_of_bytes, bits_small, bits_back, symbol_back}
use Rattle.code_theorems.proofs.Messages.{symbols_pass, fits}
use Rattle.code_theorems.proofs.Refusals.{is_true, not_refused, passed, after-given, given-fits}
use Rattle.code_theorems.proofs.Demands.{one_to_one, encodes}

module _ (p : Code) where
  -- the bytes have room for all bits
  pub bits_fit : bit_count p ≤ 8 * byte_count p
  unfolding byte_count
  bits_fit = omega arith

  -- B a multiple of 8 leaves none over
  pub no_leftover : bit_count p % 8 ≡ 0 → (k : ℕ) → Leftover p k → ⊥
  unfolding byte_count
  no_leftover e k (low, high) = omega arith

  -- bits with the leftover ones 0
  abbrev kept : (ℕ → ℕ) → ℕ → ℕ
  kept f k = cond (is_leftover p k) 0 (f k)

  kept_small : (f : ℕ → ℕ) → Bits f → Bits (kept f)
  kept_small f small k = step (is_leftover p k)
    where
      step : (t : Bool) → cond t 0 (f k) ≤ 1
      step true = omega arith
      step false = small k

  -- a bit that is not left over
  bit_kept : (f : ℕ → ℕ) → Bits f → (k : ℕ) → k < bit_count p → bit_of (bytes_of (byte_count p) (kept f)) k ≡ f k
  bit_kept f small k h =
      let g = bits_fit in
      bit_of_bytes (byte_count p) (kept f) (kept_small f small) k (omega arith) ∙ (rw (lt-leb (bit_count p) k h))

  -- bytes that were made have no leftover bit
  pub pack_bytes : (s : List ℕ) → MessageBytes p (pack p s)
  unfolding pack
  pack_bytes s =
      let f = at (bits_of (width p) s p.n) in
      let small = kept_small f (bits_small (width p) s p.n) in
      record {
        long = bytes_long (byte_count p) (kept f);
        small = bytes_small (byte_count p) (kept f) small;
        clear = λ k (low, high). bit_of_bytes (byte_count p) (kept f) small k high ∙ (rw (le-leb (bit_count p) k low));
      }

  pub unpack-long : (bytes : List ℕ) → length (unpack p bytes) ≡ p.n
  unfolding unpack
  unpack-long bytes = length-map (up_from 0 p.n) (λ i. symbol_at bytes (sum_to i (width p)) (width p i)) ∙ length-up_from 0 p.n

  pub unpack-at : (bytes : List ℕ) (i : ℕ) → i < p.n → at (unpack p bytes) i ≡ symbol_at bytes (sum_to i (width p)) (width p i)
  unfolding unpack
  unpack-at bytes i h =
      at-up_from (λ i. symbol_at bytes (sum_to i (width p)) (width p i)) 0 p.n i h
      ∙ ap (λ (k : ℕ). symbol_at bytes (sum_to k (width p)) (width p k)) (zero-add i)

  -- bytes to message to bytes
  pub pack-unpack : (x : List ℕ) → MessageBytes p x → pack p (unpack p x) ≡ x
  unfolding pack bit_count
  pack-unpack x h =
      bytes_same (byte_count p) (kept (at (bits_of (width p) (unpack p x) p.n))) (bit_of x) (λ k g. step k g (dec_lt k (bit_count p)))
      ∙ ap (λ (m : ℕ). bytes_of m (bit_of x)) (sym h.long) ∙ bytes_back x h.small
    where
      step : (k : ℕ) → k < 8 * byte_count p → Dec (k < bit_count p) → kept (at (bits_of (width p) (unpack p x) p.n)) k ≡ bit_of x k
      step k g (yes l) =
          rw (lt-leb (bit_count p) k l) (bits_back (width p) (unpack p x) (bit_of x) (bit_of-small x) p.n (unpack-at x) k l)
      step k g (no l) = rw (le-leb (bit_count p) k (omega arith)) (sym (h.clear k (omega arith, g)))

  -- the test of leftover bits
  module _ (x : List ℕ) where
    abbrev Clear : Type 0
    Clear = (k : ℕ) → Leftover p k → bit_of x k ≡ 0

    abbrev from_B : List ℕ
    from_B = up_from (bit_count p) (8 * byte_count p - bit_count p)

    pub test_clear : leftover_set p x ≡ false → Clear
    unfolding leftover_set
    test_clear e k (low, high) =
        zero-map (bit_of x) from_B (subst T (sym (not-false (all_zero (leftover_bits p x)) e)) tt) k
        (up_from_mem (bit_count p) (8 * byte_count p - bit_count p) k low (omega arith))

    pub clear_test : Clear → leftover_set p x ≡ false
    unfolding leftover_set
    clear_test h =
        let zeros = map-zero (bit_of x) from_B (λ k m.
        let b = up_from_bounds (bit_count p) (8 * byte_count p - bit_count p) k m in
        h k (omega arith, omega arith)) in
        ap not (is_true (all_zero (leftover_bits p x)) zeros)

    pub test_set : leftover_set p x ≡ true → (k : ℕ) × Leftover p k × (bit_of x k ≡ 1)
    unfolding leftover_set
    test_set e =
        let (k, m, other) = some_map (bit_of x) from_B (not-true (all_zero (leftover_bits p x)) e) in
        let b = up_from_bounds (bit_count p) (8 * byte_count p - bit_count p) k m in
        (k, (omega arith, omega arith), one (bit_of x k) (bit_of-small x k) other)
      where
        one : (v : ℕ) → v ≤ 1 → (v ≡ 0 → ⊥) → v ≡ 1
        one zero h other = absurd (other refl)
        one (suc v) h other = omega arith

  -- the radix of a cell before the check cells, and of a check cell
  radix_data : (i : ℕ) → i < data_cells p → radix p i ≡ p.q
  radix_data i h = rw (lt-ltb i (data_cells p) h)

  radix_check : (i : ℕ) → data_cells p ≤ i → radix p i ≡ p.q / p.M
  radix_check i h = rw (le-ltb i (data_cells p) h)

  -- the symbols of a message are those that are below their radix
  pub below-radix : (s : List ℕ) → Message p s → (i : ℕ) → i < p.n → at s i < radix p i
  below-radix s m i h = step (dec_lt i (data_cells p))
    where
      step : Dec (i < data_cells p) → at s i < radix p i
      step (yes g) =
          let l = length-take-le (data_cells p) s (omega (arith, m.long)) in
          let e = get_or-take (data_cells p) s i 0 g in
          let k = each_at (λ v. v < p.q) (take (data_cells p) s) m.levels i (omega arith) in
          rw (radix_data i g) (rw e at k)
      step (no g) =
          let l = length-drop (data_cells p) s in
          let j : data_cells p + (i - data_cells p) ≡ i = omega arith in
          let e = get_or-drop (data_cells p) s (i - data_cells p) 0 ∙ ap (at s) j in
          let k = each_at (λ v. v < p.q / p.M) (drop (data_cells p) s) m.checks (i - data_cells p) (omega (arith, m.long)) in
          rw (radix_check i (omega arith)) (rw e at k)

  pub radix-below : (s : List ℕ) → length s ≡ p.n → ((i : ℕ) → i < p.n → at s i < radix p i) → Message p s
  radix-below s long below = record {
    long = long;
    levels = at_each (λ v. v < p.q) (take (data_cells p) s) (λ i h.
        let l = length-take-le (data_cells p) s (omega arith) in
        let g : i < data_cells p = omega arith in
        let k = below i (omega arith) in
        rw (get_or-take (data_cells p) s i 0 g) (rw (radix_data i g) at k));
    checks = at_each (λ v. v < p.q / p.M) (drop (data_cells p) s) (λ i h.
        let l = length-drop (data_cells p) s in
        let k = below (data_cells p + i) (omega arith) in
        rw (get_or-drop (data_cells p) s i 0) (rw (radix_check (data_cells p + i) (omega arith)) at k));
  }

  module _ (powers : T (packable p)) where
    -- each radix is the power of two that its width says
    pub radix_power : (i : ℕ) → radix p i ≡ 2 ^ width p i
    unfolding packable
    radix_power i = step (ltb i (data_cells p))
      where
        step : (t : Bool) → cond t p.q (p.q / p.M) ≡ 2 ^ log2 (cond t p.q (p.q / p.M))
        step true = power_is p.q (and_left (is_power_of_two p.q) (is_power_of_two (p.q / p.M)) powers)
        step false = power_is (p.q / p.M) (and_right (is_power_of_two p.q) (is_power_of_two (p.q / p.M)) powers)

    -- message to bytes to message: the message
    pub unpack-pack : (s : List ℕ) → Message p s → unpack p (pack p s) ≡ s
    unfolding pack bit_count
    unpack-pack s m =
        let f = at (bits_of (width p) s p.n) in
        ext_get_or 0 (unpack p (pack p s)) s (unpack-long (pack p s) ∙ sym m.long) (λ i h.
        let l = unpack-long (pack p s) in
        let g : i < p.n = omega arith in
        unpack-at (pack p s) i g
        ∙ symbol_back (width p) s (bit_of (pack p s)) p.n i g (rw radix_power at (below-radix s m i g))
        (λ k b. bit_kept f (bits_small (width p) s p.n) k b))

    -- a message taken from bytes is one that can be written
    pub unpack-message : (bytes : List ℕ) → Message p (unpack p bytes)
    unpack-message bytes =
        radix-below (unpack p bytes) (unpack-long bytes) (λ i h.
        rw (radix_power i, unpack-at bytes i h) (bits_below (λ k. bit_of bytes (sum_to i (width p) + k)) (λ k. bit_of-small bytes (sum_to i (width p) + k))
        (width p i)))

    pub bytes_messages : BytesOneToOne p
    bytes_messages = record {
      packed = λ s _. pack_bytes s;
      back = unpack-pack;
      is_message = λ x _. unpack-message x;
      again = pack-unpack;
    }

-- the operations, for a code that opens and can be packed
module _ (b : List ℕ) (p : Code) (opens : open_packable b ≡ given p) where
  pub opens_powers : (open_code b ≡ given p) × T (packable p)
  unfolding open_packable
  opens_powers =
      let (o, e, g) = after-given (open_code b) (λ o. refuse 14 when not (packable o) else given o) p opens in
      let (h, k) = passed 14 (packable o) (given o) p g in
      let same : o ≡ p = cc in
      (cc, subst (λ (x : Code). T (packable x)) same h)

  one : BytesOneToOne p
  one = bytes_messages p opens_powers.1

  packs : (s out : List ℕ) → Message p s → length out ≡ byte_count p → pack_code b s out ≡ gives (pack p s)
  unfolding pack_code
  packs s out m lo =
      rw (
        opens,
        eq-eqb (length s) p.n m.long,
        eq-eqb (length out) (byte_count p) lo,
        is_true (symbols_fit p s) (symbols_pass p s m),
      )

  -- what packing gave it made of a message
  packed-message : (s lent x : List ℕ) → pack_code b s lent ≡ gives x → Message p s × (pack p s ≡ x)
  unfolding pack_code
  packed-message s lent x e =
      let (o, opened, long, lo, g) = given-fits (open_packable b) s lent (λ o. o.n) byte_count _ tt (ap (λ u. u.answer) e) in
      let (h, _) = passed 9 (symbols_fit o s) _ _ g in
      let same : o ≡ p = cc in
      let m = fits p s (long ∙ ap (λ (c : Code). c.n) same) (is_true (symbols_fit p s) (subst (λ (c : Code). T (symbols_fit c s)) same h)) in
      (m, sym (ap (λ u. u.out) (packs s lent m (lo ∙ ap byte_count same))) ∙ ap (λ u. u.out) e)

  unpacks : (x out : List ℕ) → MessageBytes p x → length out ≡ p.n → unpack_code b x out ≡ gives (unpack p x)
  unfolding unpack_code
  unpacks x out h lo = rw (opens, eq-eqb (length x) (byte_count p) h.long, eq-eqb (length out) p.n lo, clear_test p x h.clear)

  -- what unpacking gave it took from a message's bytes
  unpacked_bytes : (x lent s : List ℕ) → Bytes x → unpack_code b x lent ≡ gives s → MessageBytes p x × (unpack p x ≡ s)
  unfolding unpack_code
  unpacked_bytes x lent s small e =
      let (o, opened, long, lo, g) = given-fits (open_packable b) x lent byte_count (λ o. o.n) _ tt (ap (λ u. u.answer) e) in
      let (h, _) = not_refused 19 (leftover_set o x) _ _ g in
      let same : o ≡ p = cc in
      let m : MessageBytes p x = record {
        long = long ∙ ap byte_count same;
        small = small;
        clear = test_clear p x (subst (λ (c : Code). leftover_set c x ≡ false) same h);
      } in
      (m, sym (ap (λ u. u.out) (unpacks x lent m (lo ∙ ap (λ (c : Code). c.n) same))) ∙ ap (λ u. u.out) e)

  -- bytes that unpack to the message s are those that pack makes of it
  same_bytes : (x lent s : List ℕ) → Bytes x → unpack_code b x lent ≡ gives s → x ≡ pack p s
  same_bytes x lent s small e = let (h, g) = unpacked_bytes x lent s small e in sym (one.again x h) ∙ ap (pack p) g

  pub pack_demand : (s out : List ℕ) → Message p s → length out ≡ byte_count p → Packed b p s (pack_code b s out).answer (pack_code b s out).out
  pack_demand s out m lo =
      rw (packs s out m lo) (record {
        written = refl;
        is_bytes = one.packed s m;
        back = λ lent l. unpacks (pack p s) lent (one.packed s m) l ∙ (let e = one.back s m in rw e);
        only = λ x lent. same_bytes x lent s;
      })

  -- what is written for a message; two messages that are written as one row are one
  row_of : (s c cells : List ℕ) → Message p s → encode_code b s cells ≡ gives c → c ≡ encode p s
  unfolding encode_code
  row_of s c cells m e =
      let (o, opened, _, lo, _) = given-fits (open_code b) s cells (λ o. o.n) (λ o. o.n) _ tt (ap (λ u. u.answer) e) in
      let code = opens_powers.0 in
      let same : o ≡ p = cc in
      sym (ap (λ u. u.out) e) ∙ ap (λ u. u.out) (encodes b p code s cells m (lo ∙ ap (λ (c : Code). c.n) same))

  same_message : (s t : List ℕ) → Message p s → Message p t → encode p s ≡ encode p t → s ≡ t
  same_message s t m n e = let k = one_to_one b p opens_powers.0 in sym (k.carries s m) ∙ ap (message p) e ∙ k.carries t n

  pub message-taken : (x : List ℕ) → MessageBytes p x → MessageTaken b p x (unpack p x)
  message-taken x h =
      let s = unpack p x in
      let m = one.is_message x h in
      record {
        is_message = m;
        back = λ lent l. packs s lent m l ∙ (let e = one.again x h in rw e);
        only = λ y lent small e. same_bytes y lent s small e ∙ one.again x h;
        rows = λ y lent t c cells other small e f g.
            let (k, u) = unpacked_bytes y lent t small e in
            let n = subst (Message p) u (one.is_message y k) in
            let same = same_message t s n m (sym (row_of t c cells n f) ∙ row_of s c other m g) in
            same_bytes y lent t small e ∙ ap (pack p) same ∙ one.again x h;
      }

  refuses_19 : (x out : List ℕ) → length x ≡ byte_count p → length out ≡ p.n → leftover_set p x ≡ true
      → unpack_code b x out ≡ record { answer = refused 19; out = out }
  unfolding unpack_code
  refuses_19 x out lx lo e = rw (opens, eq-eqb (length x) (byte_count p) lx, eq-eqb (length out) p.n lo, e)

  pub unpack_demand : (x out : List ℕ) → Bytes x → length x ≡ byte_count p → length out ≡ p.n
      → Unpacked b p x (unpack_code b x out).answer (unpack_code b x out).out
  unpack_demand x out small lx lo = step (leftover_set p x) refl
    where
      -- bytes that pack made
      made : (s lent : List ℕ) → pack_code b s lent ≡ gives x → MessageBytes p x
      made s lent e = let (m, g) = packed-message s lent x e in subst (MessageBytes p) g (one.packed s m)

      step : (t : Bool) → leftover_set p x ≡ t → Unpacked b p x (unpack_code b x out).answer (unpack_code b x out).out
      step true e =
          let (k, over, set) = test_set p x e in
          rw (refuses_19 x out lx lo e) (record {
            exactly = (
              (λ g. let z : ◌≡◌ {A = ℕ} 0 1 = cc in absurd (omega arith)),
              (λ (s, lent, g). absurd (omega (arith, set, (made s lent g).clear k over))),
            );
            leftover = ((λ _. refl), (λ _. test_set p x e));
            whole = λ h. absurd (no_leftover p h k over);
            taken = λ g. (let z : ◌≡◌ {A = ℕ} 0 1 = cc in absurd (omega arith));
          })
      step false e =
          let h : MessageBytes p x = record { long = lx; small = small; clear = test_clear p x e } in
          rw (unpacks x out h lo) (record {
            exactly = ((λ _. (unpack p x, x, (message-taken x h).back x lx)), (λ _. refl));
            leftover = ((λ (k, over, set). absurd (omega (arith, set, h.clear k over))), (λ g. absurd (none-ne-some 19 g)));
            whole = λ _. refl;
            taken = λ _. message-taken x h;
          })
