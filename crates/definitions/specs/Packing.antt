-- Packing: the message of a code as bytes (document 01: bytes; document 02, wish 3: leftover bits must be 0).
use Rattle.std.specs.Prelude.{◌≡◌, Bool, ◌&&◌, not, cond, List, [], ◌++◌, map, ℕ, zero, suc, ◌+◌, ◌*◌, ◌-◌, ◌/◌, ◌%◌, ◌<◌, ◌≤◌, leb, ltb, length}
use Rattle.definitions.specs.Words.{at, sum_to, up_from, all_zero, EachCell}
use Rattle.definitions.specs.Codes.{Code, data_cells}
use Rattle.definitions.specs.Messages.{Message}
use Rattle.definitions.specs.PowersOfTwo.{log2, is_power_of_two, bit, from_bits}

-- the radix of the symbol of cell i + 1: the symbol is below q, and that of a check cell is below floor(q / M)
abbrev pub radix : Code → ℕ → ℕ
radix p i = cond (ltb i (data_cells p)) p.q (p.q / p.M)

-- "with q and floor(q/M) powers of two (1 is one, its symbol has no bits)"
unfoldable pub packable : Code → Bool
packable p = is_power_of_two p.q && is_power_of_two (p.q / p.M)

-- the bits of the symbol of cell i + 1
abbrev pub width : Code → ℕ → ℕ
width p i = log2 (radix p i)

-- document 01's B: "the bits of all n symbols"
unfoldable pub bit_count : Code → ℕ
bit_count p = sum_to p.n (width p)

-- ceil(B / 8)
unfoldable pub byte_count : Code → ℕ
byte_count p = (bit_count p + 7) / 8

-- "bit k is the bit of value 2^(k mod 8) in byte floor(k/8)"
abbrev pub bit_of : List ℕ → ℕ → ℕ
bit_of bytes k = bit (at bytes (k / 8)) (k % 8)

-- the m bytes whose bit k is f k
abbrev pub bytes_of : ℕ → (ℕ → ℕ) → List ℕ
bytes_of m f = map (λ j. from_bits 8 (λ i. f (8 * j + i))) (up_from 0 m)

-- "symbols go in cell order, lowest bit first": the bits of the first i symbols of s, where the symbol of cell j + 1 has w j bits
abbrev pub bits_of : (ℕ → ℕ) → List ℕ → ℕ → List ℕ
bits_of w s zero = []
bits_of w s (suc i) = bits_of w s i ++ map (bit (at s i)) (up_from 0 (w i))

-- the number whose bits, lowest first, are w bits of the bytes from bit k on
abbrev pub symbol_at : List ℕ → ℕ → ℕ → ℕ
symbol_at bytes k w = from_bits w (λ i. bit_of bytes (k + i))

-- bit k is left over: no symbol has it
abbrev pub is_leftover : Code → ℕ → Bool
is_leftover p k = leb (bit_count p) k

-- the bytes made from a message: "leftover bits are .. 0 when bytes are made"
unfoldable pub pack : Code → List ℕ → List ℕ
pack p s = bytes_of (byte_count p) (λ k. cond (is_leftover p k) 0 (at (bits_of (width p) s p.n) k))

-- the message taken from bytes
unfoldable pub unpack : Code → List ℕ → List ℕ
unpack p bytes = map (λ i. symbol_at bytes (sum_to i (width p)) (width p i)) (up_from 0 p.n)

-- the leftover bits of the last byte: from bit B on to the end of the bytes, none where B is a multiple of 8
abbrev pub leftover_bits : Code → List ℕ → List ℕ
leftover_bits p bytes = map (bit_of bytes) (up_from (bit_count p) (8 * byte_count p - bit_count p))

-- bit k is one of them: no symbol has it, and the last byte does
abbrev pub Leftover : Code → ℕ → Type 0
Leftover p k = (bit_count p ≤ k) × (k < 8 * byte_count p)

-- wish 3, in place of document 01's "leftover bits are ignored when a message is taken from bytes": "a leftover bit of the last byte is set"
unfoldable pub leftover_set : Code → List ℕ → Bool
leftover_set p bytes = not (all_zero (leftover_bits p bytes))

abbrev pub Bytes : List ℕ → Type 0
Bytes x = EachCell (λ v. v < 256) x

-- ceil(B / 8) bytes whose leftover bits are 0
pub record MessageBytes (p : Code) (bytes : List ℕ) : Type 0 where
  pub long : length bytes ≡ byte_count p
  pub small : Bytes bytes
  pub clear : (k : ℕ) → Leftover p k → bit_of bytes k ≡ 0

-- messages and such bytes correspond one to one
pub record BytesOneToOne (p : Code) : Type 0 where
  pub packed : (s : List ℕ) → Message p s → MessageBytes p (pack p s)
  pub back : (s : List ℕ) → Message p s → unpack p (pack p s) ≡ s
  pub is_message : (x : List ℕ) → MessageBytes p x → Message p (unpack p x)
  pub again : (x : List ℕ) → MessageBytes p x → pack p (unpack p x) ≡ x
