-- The binary Golay code of 23 cells, over each number of levels; the rule of a table of its patterns, one to each syndrome; and decoding
-- without a description, which such a table serves.
use Rattle.std.specs.Prelude.{◌≡◌, cond, ◌&&◌, not, List, ◌∷◌, map, ℕ, zero, suc, ◌+◌, ◌*◌, ◌-◌, ◌/◌, ◌%◌, ◌^◌, ◌<◌, eqb, ltb, length}
use Rattle.std.specs.Int.{bit_at}
use Rattle.std.specs.Int.Bits.{bit_xor}
use Rattle.definitions.specs.Words.{up_from, all_below}
use Rattle.definitions.specs.Answers.{Result, refuse◌when◌else◌, result}
use Rattle.definitions.specs.Codes.{Code}
use Rattle.definitions.specs.Codewords.{syndrome}
use Rattle.definitions.specs.Patterns.{Pattern}
use Rattle.definitions.specs.Decoding.{decode}
use Rattle.definitions.specs.CodeOperations.{between}

-- A polynomial over the integers modulo 2 is the number whose bit e is the coefficient of x^e. The generator is
-- x^11 + x^9 + x^7 + x^6 + x^5 + x + 1
abbrev pub generator : ℕ
generator = 2 ^ 11 + 2 ^ 9 + 2 ^ 7 + 2 ^ 6 + 2 ^ 5 + 2 + 1

-- a polynomial of degree 11 at most, less the generator where the degree is 11
abbrev pub reduced : ℕ → ℕ
reduced p = cond (ltb p (2 ^ 11)) p (bit_xor p generator)

-- the remainder of x^e by the generator
abbrev pub remainder : ℕ → ℕ
remainder zero = 1
remainder (suc e) = reduced (2 * remainder e)

-- the parity matrix, 11 rows of 12 entries: the column of cell j is the remainder of x^(23-j), and row k of it the coefficient of x^(11-k)
unfoldable pub golay_matrix : List ℕ
golay_matrix = map (λ i. bit_at (remainder (22 - i % 12)) (10 - i / 12)) (up_from 0 132)

-- the code: 23 cells, 11 of them check cells, modulus 2; up to three cells may rise, each by 1
abbrev pub golay_code : ℕ → Code
golay_code q = record { n = 23; r = 11; q = q; M = 2; l = 1; t = 3; A = golay_matrix }

-- its description
abbrev pub golay_body : ℕ → List ℕ
golay_body q = 23 ∷ 11 ∷ q ∷ 2 ∷ 1 ∷ 3 ∷ golay_matrix

-- the syndrome that has index i: entry 1 has place value 1,024 in the index, entry 11 place value 1
unfoldable pub syndrome_of_index : ℕ → List ℕ
syndrome_of_index i = map (λ k. bit_at i (10 - k)) (up_from 0 11)

-- the word that a number of 23 bits stands for: cell j is bit 23 - j
unfoldable pub word_of_bits : ℕ → List ℕ
word_of_bits b = map (λ i. bit_at b (22 - i)) (up_from 0 23)

-- the rule of the table, at entry i: b is a number of 23 bits, and its word is a pattern whose syndrome has index i
pub record HasIndex (i b : ℕ) : Type 0 where
  pub bits : b < 2 ^ 23
  pub is_pattern : (q : ℕ) → Pattern (golay_code q) (word_of_bits b)
  pub index : (q : ℕ) → syndrome (golay_code q) (word_of_bits b) ≡ syndrome_of_index i

-- Decoding a received word of this code, of q levels: 2 for an odd q or one outside 2 to 64, then 8, 10 and 11 as decoding with a description
-- has them. What is given is the count
unfoldable pub decode_golay : ℕ → List ℕ → List ℕ → Result ℕ
decode_golay q y out =
    result
    (refuse 2 when not (between 2 q 64 && eqb (q % 2) 0) else
    refuse 8 when not (eqb (length y) 23 && eqb (length out) 23) else
    refuse 10 when not (all_below q y) else
    decode (golay_code q) y)
    out
