-- Bytes by their bits, and the bits of a message: the symbol of cell i + 1 has w i bits, from bit w 0 + .. + w (i - 1) on.
use mathlib.Core.Path.{◌≡◌, refl, sym, ap, ◌∙◌, subst}
use mathlib.Core.Bool.{Bool, true, false}
use mathlib.Core.List.{List, map}
use Prim.Native.Nat.{ℕ, zero, suc, ◌+◌, ◌*◌, ◌-◌, ◌/◌, ◌%◌, ◌^◌, ◌≤◌, ◌<◌}
use native.Mathlib.Nat.{add_assoc, zero-add, mul_comm, mod-lt, div-add-mod', div-lt_iff_lt-mul}
use native.Mathlib.Decide.{dec_lt}
use native.Mathlib.Omega.{arith}
use lib.Arith.{digits_div, digits_mod}
use lib.Dec.{T, eqb}
use lib.ListN.{length, length-append, length-map, get_or-append}
use lib.Seq.{ext_get_or, get_or-append-add}
use borrow.Author.Tests.{eq-eqb, ne_eqb}
use Rattle.definitions.specs.Words.{at, sum_to, up_from, all_zero}
use Rattle.definitions.specs.PowersOfTwo.{bit, from_bits}
use Rattle.definitions.specs.Packing.{bit_of, bytes_of, bits_of, symbol_at, Bytes}
use Rattle.word_laws.proofs.Cells.{at-past, each_at, at_each, at-up_from, length-up_from, up_from_bounds, up_from_mem, map_same, zero-map, some_map}
use Rattle.word_laws.proofs.Bits.{Bits, bit-small, bits_same, bits_zero, bits_apart, bits_below, bits_of_lem, bits_whole, bit_from, bit-above, bit_shifted}

-- bytes
pub bytes_long : (m : ℕ) (f : ℕ → ℕ) → length (bytes_of m f) ≡ m
bytes_long m f = length-map (up_from 0 m) (λ j. from_bits 8 (λ i. f (8 * j + i))) ∙ length-up_from 0 m

pub bytes_at : (m : ℕ) (f : ℕ → ℕ) (j : ℕ) → j < m → at (bytes_of m f) j ≡ from_bits 8 (λ i. f (8 * j + i))
bytes_at m f j h = at-up_from (λ j. from_bits 8 (λ i. f (8 * j + i))) 0 m j h ∙ ap (λ (k : ℕ). from_bits 8 (λ i. f (8 * k + i))) (zero-add j)

pub bytes_same : (m : ℕ) (f g : ℕ → ℕ) → ((k : ℕ) → k < 8 * m → f k ≡ g k) → bytes_of m f ≡ bytes_of m g
bytes_same m f g h =
    map_same (λ j. from_bits 8 (λ i. f (8 * j + i))) (λ j. from_bits 8 (λ i. g (8 * j + i))) (up_from 0 m) (λ j e.
    let b = up_from_bounds 0 m j e in
    bits_same 8 (λ i. f (8 * j + i)) (λ i. g (8 * j + i)) (λ i l. h (8 * j + i) (omega arith)))

pub bytes_small : (m : ℕ) (f : ℕ → ℕ) → Bits f → Bytes (bytes_of m f)
bytes_small m f small =
    at_each (λ v. v < 256) (bytes_of m f) (λ j h.
    let l = bytes_long m f in
    rw (bytes_at m f j (omega arith)) (bits_below (λ i. f (8 * j + i)) (λ i. small (8 * j + i)) 8))

-- bit k stands at its place in its byte
pub placed : (k : ℕ) → 8 * (k / 8) + k % 8 ≡ k
placed k = rw mul_comm (div-add-mod' k 8)

pub bit_of_bytes : (m : ℕ) (f : ℕ → ℕ) → Bits f → (k : ℕ) → k < 8 * m → bit_of (bytes_of m f) k ≡ f k
bit_of_bytes m f small k h =
    let g : k / 8 < m = (div-lt_iff_lt-mul {k = 8} {x = k} {y = m} (omega arith)).1 (omega arith) in
    ap (λ (x : ℕ). bit x (k % 8)) (bytes_at m f (k / 8) g)
    ∙ bit_from (λ i. f (8 * (k / 8) + i)) (λ i. small (8 * (k / 8) + i)) 8 (k % 8) (mod-lt k (omega arith)) ∙ ap f (placed k)

pub bit_of-small : (bytes : List ℕ) → Bits (bit_of bytes)
bit_of-small bytes k = bit-small (at bytes (k / 8)) (k % 8)

-- bit i of byte j
pub bit_in_byte : (bytes : List ℕ) (j i : ℕ) → i < 8 → bit_of bytes (8 * j + i) ≡ bit (at bytes j) i
bit_in_byte bytes j i h = rw (mul_comm 8 j, digits_div j h, digits_mod j h)

-- a byte by its bits, and all bytes
pub byte_back : (bytes : List ℕ) (j : ℕ) → at bytes j ≤ 255 → from_bits 8 (λ i. bit_of bytes (8 * j + i)) ≡ at bytes j
byte_back bytes j h =
    bits_same 8 (λ i. bit_of bytes (8 * j + i)) (bit (at bytes j)) (λ i k. bit_in_byte bytes j i k)
    ∙ bits_whole (at bytes j) 8 (omega arith)

pub bytes_back : (bytes : List ℕ) → Bytes bytes → bytes_of (length bytes) (bit_of bytes) ≡ bytes
bytes_back bytes small =
    ext_get_or 0 (bytes_of (length bytes) (bit_of bytes)) bytes (bytes_long (length bytes) (bit_of bytes)) (λ j h.
    let l = bytes_long (length bytes) (bit_of bytes) in
    let g : j < length bytes = omega arith in
    let b = each_at (λ v. v < 256) bytes small j g in
    bytes_at (length bytes) (bit_of bytes) j g ∙ byte_back bytes j (omega arith))

-- bits that are all 0 make the number 0, and no others do
pub symbol_zero : (bytes : List ℕ) (k w : ℕ) → all_zero (map (bit_of bytes) (up_from k w)) ≡ eqb (symbol_at bytes k w) 0
symbol_zero bytes k w = step (all_zero (map (bit_of bytes) (up_from k w))) refl
  where
    step : (t : Bool) → all_zero (map (bit_of bytes) (up_from k w)) ≡ t → t ≡ eqb (symbol_at bytes k w) 0
    step true e = sym (eq-eqb (symbol_at bytes k w) 0 (bits_zero w (λ i. bit_of bytes (k + i)) (λ i h.
        zero-map (bit_of bytes) (up_from k w) (subst T (sym e) tt) (k + i) (up_from_mem k w (k + i) (omega arith) (omega arith)))))
    step false e =
        let (j, m, other) = some_map (bit_of bytes) (up_from k w) e in
        let b = up_from_bounds k w j m in
        let place : k + (j - k) ≡ j = omega arith in
        sym (ne_eqb (symbol_at bytes k w) 0 (λ z. other
        (ap (bit_of bytes) (sym place)
        ∙ sym (bit_from (λ i. bit_of bytes (k + i)) (λ i. bit_of-small bytes (k + i)) w (j - k) (omega arith))
        ∙ ap (λ (x : ℕ). bit x (j - k)) z ∙ bit-above 0 0 (j - k) (omega arith) (omega arith))))

-- two bytes that stand together
module _ (bytes : List ℕ) (j : ℕ) (lo : at bytes j ≤ 255) (hi : at bytes (j + 1) ≤ 255) where
  abbrev both : ℕ
  both = at bytes (j + 1) * 256 + at bytes j

  abbrev from_here : ℕ → ℕ
  from_here k = bit_of bytes (8 * j + k)

  sixteen : both ≡ from_bits 16 from_here
  sixteen =
      sym (bits_apart from_here 8 8
      ∙ ap (λ (x : ℕ). x * 256 + from_bits 8 from_here)
      (bits_same 8 (λ i. from_here (8 + i)) (λ i. bit_of bytes (8 * (j + 1) + i)) (λ i k. ap (bit_of bytes) (next i)) ∙ byte_back bytes (j + 1) hi)
      ∙ ap (λ (x : ℕ). at bytes (j + 1) * 256 + x) (byte_back bytes j lo))
    where
      next : (i : ℕ) → 8 * j + (8 + i) ≡ 8 * (j + 1) + i
      next i = omega arith

  -- w of their bits, from bit a on
  pub symbol_in_two : (a w : ℕ) → a + w ≤ 16 → both / 2 ^ a % 2 ^ w ≡ symbol_at bytes (8 * j + a) w
  symbol_in_two a w h =
      sym (bits_of_lem (both / 2 ^ a) w)
      ∙ bits_same w (bit (both / 2 ^ a)) (λ i. bit_of bytes (8 * j + a + i)) (λ i g.
      bit_shifted both a i ∙ ap (λ (x : ℕ). bit x (a + i)) sixteen
      ∙ bit_from from_here (λ k. bit_of-small bytes (8 * j + k)) 16 (a + i) (omega arith)
      ∙ ap (bit_of bytes) (sym (add_assoc (8 * j) a i)))

module _ (w : ℕ → ℕ) where
  -- symbols stand one after another
  pub starts_grow : (i n : ℕ) → i ≤ n → sum_to i w ≤ sum_to n w
  starts_grow i zero h = let e : i ≡ 0 = omega arith in rw e (omega arith)
  starts_grow i (suc n) h = step (dec_lt i (suc n)) (λ g. starts_grow i n g)
    where
      step : Dec (i < suc n) → (i ≤ n → sum_to i w ≤ sum_to n w) → sum_to i w ≤ sum_to (suc n) w
      step (yes g) ih = let k = ih (omega arith) in omega arith
      step (no g) ih = let e : i ≡ suc n = omega arith in rw e (omega arith)

  pub bits_long : (s : List ℕ) (n : ℕ) → length (bits_of w s n) ≡ sum_to n w
  bits_long s zero = refl
  bits_long s (suc n) = rw (length-append, bits_long s n, length-map, length-up_from)

  -- the bits of the symbol of cell n + 1, which stand last
  abbrev last_bits : List ℕ → ℕ → List ℕ
  last_bits s n = map (bit (at s n)) (up_from 0 (w n))

  at_first : (s : List ℕ) (n k : ℕ) → k < sum_to n w → at (bits_of w s (suc n)) k ≡ at (bits_of w s n) k
  at_first s n k h = let l = bits_long s n in get_or-append (bits_of w s n) (last_bits s n) 0 k (omega arith)

  at_last : (s : List ℕ) (n j : ℕ) → j < w n → at (bits_of w s (suc n)) (sum_to n w + j) ≡ bit (at s n) j
  at_last s n j h =
      rw (← bits_long s n, get_or-append-add (bits_of w s n) (last_bits s n) j 0) (at-up_from (bit (at s n)) 0 (w n) j h ∙ ap (bit (at s n)) (zero-add j))

  -- bit j of the symbol of cell i + 1
  pub bit_of_symbol : (s : List ℕ) (n i j : ℕ) → i < n → j < w i → at (bits_of w s n) (sum_to i w + j) ≡ bit (at s i) j
  bit_of_symbol s zero i j h g = absurd (omega arith)
  bit_of_symbol s (suc n) i j h g = step (dec_lt i n) (λ k. bit_of_symbol s n i j k g)
    where
      step : Dec (i < n) → (i < n → at (bits_of w s n) (sum_to i w + j) ≡ bit (at s i) j) → at (bits_of w s (suc n)) (sum_to i w + j) ≡ bit (at s i) j
      step (yes k) ih = let b = starts_grow (suc i) n k in at_first s n (sum_to i w + j) (omega arith) ∙ ih k
      step (no k) ih =
          let e : i ≡ n = omega arith in
          let g' : j < w n = subst (λ (m : ℕ). j < w m) e g in
          rw e (at_last s n j g')

  pub bits_small : (s : List ℕ) (n : ℕ) → Bits (at (bits_of w s n))
  bits_small s zero k = omega arith
  bits_small s (suc n) k = step (dec_lt k (sum_to n w)) (bits_small s n k)
    where
      step : Dec (k < sum_to n w) → at (bits_of w s n) k ≤ 1 → at (bits_of w s (suc n)) k ≤ 1
      step (yes g) ih = rw (at_first s n k g) ih
      step (no g) ih = last (dec_lt (k - sum_to n w) (w n))
        where
          last : Dec (k - sum_to n w < w n) → at (bits_of w s (suc n)) k ≤ 1
          last (yes b) =
              let e : k ≡ sum_to n w + (k - sum_to n w) = omega arith in
              let h = ap (at (bits_of w s (suc n))) e ∙ at_last s n (k - sum_to n w) b in
              rw h (bit-small (at s n) (k - sum_to n w))
          last (no b) = let l = bits_long s (suc n) in rw (at-past (bits_of w s (suc n)) k (omega arith)) (omega arith)

  -- symbols whose bits are f's have f's bits
  pub bits_back :
      (s : List ℕ) (f : ℕ → ℕ)
      → Bits f
      → (n : ℕ)
      → ((i : ℕ) → i < n → at s i ≡ from_bits (w i) (λ k. f (sum_to i w + k)))
      → (k : ℕ)
      → k < sum_to n w
      → at (bits_of w s n) k ≡ f k
  bits_back s f small zero h k g = absurd (omega arith)
  bits_back s f small (suc n) h k g =
      step (dec_lt k (sum_to n w)) (λ b. bits_back s f small n (λ i l. h i (omega arith)) k b)
    where
      step : Dec (k < sum_to n w) → (k < sum_to n w → at (bits_of w s n) k ≡ f k) → at (bits_of w s (suc n)) k ≡ f k
      step (yes b) ih = at_first s n k b ∙ ih b
      step (no b) ih =
          let e : k ≡ sum_to n w + (k - sum_to n w) = omega arith in
          let l : k - sum_to n w < w n = omega arith in
          ap (at (bits_of w s (suc n))) e ∙ at_last s n (k - sum_to n w) l
          ∙ ap (λ (x : ℕ). bit x (k - sum_to n w)) (h n (omega arith))
          ∙ bit_from (λ j. f (sum_to n w + j)) (λ j. small (sum_to n w + j)) (w n) (k - sum_to n w) l ∙ ap f (sym e)

  -- the symbol of cell i + 1, from bits that are the message's
  pub symbol_back : (s : List ℕ) (f : ℕ → ℕ) (n i : ℕ) → i < n → at s i < 2 ^ w i → ((k : ℕ) → k < sum_to n w → f k ≡ at (bits_of w s n) k)
      → from_bits (w i) (λ k. f (sum_to i w + k)) ≡ at s i
  symbol_back s f n i h g same =
      let b = starts_grow (suc i) n h in
      bits_same (w i) (λ k. f (sum_to i w + k)) (bit (at s i)) (λ k l. same (sum_to i w + k) (omega arith) ∙ bit_of_symbol s n i k h l)
      ∙ bits_whole (at s i) (w i) g
