-- The operations of packing, for every byte string and every buffer: document 01's "bytes, either way", with document 02's wish 3.
use Rattle.std.specs.Prelude.{◌≡◌, ◌&&◌, not, ◌↔◌, List, ℕ, ◌%◌, eqb, length}
use Rattle.std.proofs.Math.Option.{some}
use Rattle.definitions.specs.Answers.{Answer, given, Result, gives, refuse◌when◌else◌, result, number, after}
use Rattle.definitions.specs.Codes.{Code}
use Rattle.definitions.specs.Messages.{Message, symbols_fit}
use Rattle.definitions.specs.CodeOperations.{open_code, encode_code}
use Rattle.definitions.specs.Packing.{packable, bit_count, byte_count, bit_of, pack, unpack, Leftover, leftover_set, Bytes, MessageBytes}

-- both begin so: "open; 14"
unfoldable pub open_packable : List ℕ → Answer Code
open_packable b = after (open_code b) λ p. refuse 14 when not (packable p) else given p

-- to bytes. Description, message, output buffer
unfoldable pub pack_code : List ℕ → List ℕ → List ℕ → Result (Unit {0})
pack_code b s out =
    result
    (after (open_packable b) λ p.
    refuse 8 when not (eqb (length s) p.n && eqb (length out) (byte_count p)) else
    refuse 9 when not (symbols_fit p s) else
    given (tt, pack p s))
    out

-- from bytes; wish 3: "19 when a leftover bit of the last byte is set, after 8 and before anything is written". Description, bytes, output buffer
unfoldable pub unpack_code : List ℕ → List ℕ → List ℕ → Result (Unit {0})
unpack_code b bytes out =
    result
    (after (open_packable b) λ p.
    refuse 8 when not (eqb (length bytes) (byte_count p) && eqb (length out) p.n) else
    refuse 19 when leftover_set p bytes else
    given (tt, unpack p bytes))
    out

-- of packing the message s with the description b: what the buffer holds are the only bytes that unpack to this message
pub record Packed (b : List ℕ) (p : Code) (s : List ℕ) (answer : Answer (Unit {0})) (out : List ℕ) : Type 0 where
  pub written : answer ≡ given tt
  pub is_bytes : MessageBytes p out
  -- pack, then unpack, is the message
  pub back : (lent : List ℕ) → length lent ≡ p.n → unpack_code b out lent ≡ gives s
  pub only : (x lent : List ℕ) → Bytes x → unpack_code b x lent ≡ gives s → x ≡ out

-- of bytes that the description b unpacks to the message s: they are the bytes that pack makes of it
pub record MessageTaken (b : List ℕ) (p : Code) (bytes s : List ℕ) : Type 0 where
  pub is_message : Message p s
  -- unpack, then pack, is the bytes
  pub back : (lent : List ℕ) → length lent ≡ byte_count p → pack_code b s lent ≡ gives bytes
  -- bytes that unpack to equal messages are equal
  pub only : (x lent : List ℕ) → Bytes x → unpack_code b x lent ≡ gives s → x ≡ bytes
  -- "equal rows mean equal bytes": so are bytes whose messages are written as one row c
  pub rows :
      (x lent m c cells other : List ℕ)
      → Bytes x
      → unpack_code b x lent ≡ gives m
      → encode_code b m cells ≡ gives c
      → encode_code b s other ≡ gives c
      → x ≡ bytes

-- of unpacking bytes with the description b
pub record Unpacked (b : List ℕ) (p : Code) (bytes : List ℕ) (answer : Answer (Unit {0})) (out : List ℕ) : Type 0 where
  -- the bytes that unpack are exactly those that pack makes
  pub exactly : (answer ≡ given tt) ↔ ((s lent : List ℕ) × (pack_code b s lent ≡ gives bytes))
  -- and the others are refused 19: those with a leftover bit set
  pub leftover : ((k : ℕ) × Leftover p k × (bit_of bytes k ≡ 1)) ↔ (number answer ≡ some 19)
  -- B a multiple of 8 has no leftover bits: 19 cannot come
  pub whole : bit_count p % 8 ≡ 0 → answer ≡ given tt
  pub taken : answer ≡ given tt → MessageTaken b p bytes out
