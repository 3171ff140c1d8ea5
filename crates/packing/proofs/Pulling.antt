-- How bytes are made: a symbol is pulled, a byte is full, the next byte begins.
use Rattle.std.proofs.Common.{◌≡◌, sym, ap, ◌∙◌, List, ℕ, ◌+◌, ◌*◌, ◌-◌, ◌/◌, ◌%◌, ◌^◌, ◌≤◌, ◌<◌, length, arith}
use mathlib.Core.Logic.{◌⊎◌, inl, inr, ⊎_elim}
use native.Mathlib.Nat.{add_comm, mod-eq_of_lt, div-eq_of_lt, zero-mul, zero-add, lt_of_lt_of_le}
use native.Mathlib.Numerals.{add-one}
use native.Mathlib.Decide.{dec_lt}
use lib.Pow.{pow_mono}
use Rattle.definitions.specs.Words.{at, sum_to}
use Rattle.definitions.specs.PowersOfTwo.{bit, from_bits}
use Rattle.definitions.specs.Packing.{bytes_of, bits_of}
use Rattle.word_laws.proofs.Cells.{at-past}
use Rattle.word_laws.proofs.Bits.{bits_same, bits_zero, bits_apart, bits_below, bits_whole, bits_low, bits_high}
use Rattle.word_laws.proofs.BitLists.{bits_long, bits_small, bit_of_symbol, bytes_long, bytes_at, starts_grow}
use Rattle.bit_reader.specs.Taking.{width_in}
use Rattle.packing.specs.Pulling.{Pulling, first, Full}
use Rattle.packing.specs.declared.pulled.Pulled.{Pulled}
use Rattle.packing.specs.declared.pulled.Symbols.{Symbols}

module _ (m : Symbols) where
  -- the message's bits, from bit i on
  abbrev bits_from : ℕ → ℕ → ℕ
  bits_from i k = at (bits_of (width_in m.layout) m.message.now m.layout.n) (i + k)

  -- how many they are
  abbrev all : ℕ
  all = sum_to m.layout.n (width_in m.layout)

  bits_past :
      (b : ℕ) (f : ℕ → ℕ)
      → ((k : ℕ) → all ≤ f k)
      → from_bits b (λ k. at (bits_of (width_in m.layout) m.message.now m.layout.n) (f k)) ≡ 0
  bits_past b f h =
      bits_zero b (λ k. at (bits_of (width_in m.layout) m.message.now m.layout.n) (f k)) (λ k _.
      at-past (bits_of (width_in m.layout) m.message.now m.layout.n) (f k)
      (let p = h k in omega (arith, bits_long (width_in m.layout) m.message.now m.layout.n)))

  -- a message's bytes, n of them
  abbrev pub bytes_made : ℕ → List ℕ
  bytes_made n = bytes_of n (at (bits_of (width_in m.layout) m.message.now m.layout.n))

  pub made_long : (n : ℕ) → length (bytes_made n) ≡ n
  made_long n = bytes_long n (at (bits_of (width_in m.layout) m.message.now m.layout.n))

  -- what is pulled for byte j + 1 begins there, or where all bits end
  abbrev pub Placed : ℕ → Pulled → Type 0
  Placed j x = (first m x ≡ 8 * j) ⊎ ((all ≤ 8 * j) × (first m x ≡ all))

  module _ (x : Pulled) (g : Pulling m x) where
    -- at most what the byte's bits and one more symbol make
    pub value-below : x.value < 2 ^ x.bits
    value-below = rw g.value (bits_below (bits_from (first m x)) (λ k. bits_small (width_in m.layout) m.message.now m.layout.n (first m x + k)) x.bits)

    pub value-few : x.bits < 8 → x.value < 256
    value-few h = let b = value-below in lt_of_lt_of_le b (pow_mono {i = x.bits} {j = 8} (omega arith))

    -- the next symbol, of b bits, moved up to its place: r
    module _ (below : x.cells < m.layout.n) (fits : at m.message.now x.cells < 2 ^ width_in m.layout x.cells) where
      symbol_bits : from_bits (width_in m.layout x.cells) (λ k. bits_from (first m x) (x.bits + k)) ≡ at m.message.now x.cells
      symbol_bits =
          bits_same (width_in m.layout x.cells) (λ k. bits_from (first m x) (x.bits + k)) (bit (at m.message.now x.cells)) (λ k h.
          ap (at (bits_of (width_in m.layout) m.message.now m.layout.n)) (place k)
          ∙ bit_of_symbol (width_in m.layout) m.message.now m.layout.n x.cells k below h)
          ∙ bits_whole (at m.message.now x.cells) (width_in m.layout x.cells) fits
        where
          place : (k : ℕ) → first m x + (x.bits + k) ≡ sum_to x.cells (width_in m.layout) + k
          place k = omega (arith, g.bits)

      module _ {b r : ℕ} (eb : b ≡ width_in m.layout x.cells) (er : r ≡ at m.message.now x.cells * 2 ^ x.bits) where
        abbrev next : Pulled
        next = record { value = x.value + r; bits = x.bits + b; cells = x.cells + 1 }

        pub same_first : first m next ≡ first m x
        same_first = rw add-one (omega (arith, g.bits))

        pub pulled : Pulling m next
        pulled = record {
          cells = omega arith;
          bits = rw add-one (omega (arith, g.bits));
          value =
              rw (same_first, eb, bits_apart (bits_from (first m x)) x.bits (width_in m.layout x.cells), symbol_bits, ← er, ← g.value)
              (add_comm x.value r);
        }

    module _ (j : ℕ) (placed : Placed j x) (full : Full m x) where
      -- what is pulled goes past the byte, or ends in it and is all
      past : (8 ≤ x.bits) ⊎ ((x.bits < 8) × (x.cells ≡ m.layout.n))
      past = step (dec_lt x.bits 8) full
        where
          step : Dec (x.bits < 8) → Full m x → (8 ≤ x.bits) ⊎ ((x.bits < 8) × (x.cells ≡ m.layout.n))
          step (no h) f = inl (omega arith)
          step (yes h) (inl a) = absurd (omega arith)
          step (yes h) (inr a) = inr (h, a)

      some : x.bits + first m x ≤ all
      some = omega (arith, g.bits, starts_grow (width_in m.layout) x.cells m.layout.n g.cells)

      small : (i k : ℕ) → bits_from i k ≤ 1
      small i k = bits_small (width_in m.layout) m.message.now m.layout.n (i + k)

      -- the byte
      pub byte_full : x.value % 256 ≡ from_bits 8 (bits_from (8 * j))
      byte_full = ⊎_elim begun ended placed
        where
          over : 8 ≤ x.bits → x.value % 256 ≡ from_bits 8 (bits_from (first m x))
          over a =
              let e : x.bits ≡ 8 + (x.bits - 8) = omega arith in
              ap (λ (v : ℕ). v % 256) (g.value ∙ ap (λ (b : ℕ). from_bits b (bits_from (first m x))) e)
              ∙ bits_low (bits_from (first m x)) (small (first m x)) 8 (x.bits - 8)

          within : (x.bits < 8) × (x.cells ≡ m.layout.n) → x.value % 256 ≡ from_bits 8 (bits_from (first m x))
          within (h, a) =
              let e : 8 ≡ x.bits + (8 - x.bits) = omega arith in
              let end = ap (λ (i : ℕ). sum_to i (width_in m.layout)) a in
              mod-eq_of_lt (value-few h) ∙ g.value
              ∙ sym (ap (λ (b : ℕ). from_bits b (bits_from (first m x))) e ∙ bits_apart (bits_from (first m x)) x.bits (8 - x.bits)
              ∙ rw (bits_past (8 - x.bits) (λ k. first m x + (x.bits + k)) (λ k. omega (arith, end, g.bits)), zero-mul)
              (zero-add (from_bits x.bits (bits_from (first m x)))))

          begun : first m x ≡ 8 * j → x.value % 256 ≡ from_bits 8 (bits_from (8 * j))
          begun e = ⊎_elim over within past ∙ ap (λ (i : ℕ). from_bits 8 (bits_from i)) e

          ended : (all ≤ 8 * j) × (first m x ≡ all) → x.value % 256 ≡ from_bits 8 (bits_from (8 * j))
          ended (h, e) =
              let z : x.bits ≡ 0 = omega (arith, some) in
              ap (λ (v : ℕ). v % 256) (g.value ∙ ap (λ (b : ℕ). from_bits b (bits_from (first m x))) z)
              ∙ sym (bits_past 8 (λ k. 8 * j + k) (λ k. omega arith))

      pub byte_made : (n : ℕ) → j < n → x.value % 256 ≡ at (bytes_made n) j
      byte_made n h = byte_full ∙ sym (bytes_at n (at (bits_of (width_in m.layout) m.message.now m.layout.n)) j h)

      -- what is left for the next byte
      abbrev left : Pulled
      left = record { value = x.value / 256; bits = x.bits - 8; cells = x.cells }

      pub byte_next : Pulling m left
      byte_next = record { cells = g.cells; bits = omega (arith, g.bits); value = ⊎_elim over within past }
        where
          over : 8 ≤ x.bits → x.value / 256 ≡ from_bits (x.bits - 8) (bits_from (first m left))
          over a =
              let e : x.bits ≡ 8 + (x.bits - 8) = omega arith in
              ap (λ (v : ℕ). v / 256) (g.value ∙ ap (λ (b : ℕ). from_bits b (bits_from (first m x))) e)
              ∙ bits_high (bits_from (first m x)) (small (first m x)) 8 (x.bits - 8)
              ∙ bits_same (x.bits - 8) (λ k. bits_from (first m x) (8 + k)) (bits_from (first m left)) (λ k _.
              ap (at (bits_of (width_in m.layout) m.message.now m.layout.n)) (place k))
            where
              place : (k : ℕ) → first m x + (8 + k) ≡ first m left + k
              place k = omega (arith, g.bits)

          within : (x.bits < 8) × (x.cells ≡ m.layout.n) → x.value / 256 ≡ from_bits (x.bits - 8) (bits_from (first m left))
          within (h, a) =
              let e : x.bits - 8 ≡ 0 = omega arith in
              div-eq_of_lt (value-few h) ∙ sym (ap (λ (b : ℕ). from_bits b (bits_from (first m left))) e)

      pub next_placed : Placed (j + 1) left
      next_placed = ⊎_elim over within past
        where
          over : 8 ≤ x.bits → Placed (j + 1) left
          over a = ⊎_elim (λ e. inl (omega (arith, g.bits))) (λ (_, e). absurd (omega (arith, some))) placed

          within : (x.bits < 8) × (x.cells ≡ m.layout.n) → Placed (j + 1) left
          within (h, a) = inr (end placed, omega (arith, same))
            where
              same : sum_to x.cells (width_in m.layout) ≡ all
              same = ap (λ (i : ℕ). sum_to i (width_in m.layout)) a

              end : Placed j x → all ≤ 8 * (j + 1)
              end (inl e) = omega (arith, same)
              end (inr (b, _)) = omega arith
