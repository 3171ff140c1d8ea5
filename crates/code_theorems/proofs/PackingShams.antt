-- Operations between messages and bytes that answer wrongly do not meet their clauses. Witnesses: R, whose message 3 2 1 0 0 is the bytes
-- 51 0, and eight cells of two levels, whose eight bits are one byte.
use mathlib.Core.Path.{◌≡◌, refl, sym, ap, ◌∙◌}
use mathlib.Core.List.{List, [], ◌∷◌}
use mathlib.Core.Option.{some}
use Prim.Native.Nat.{ℕ}
use native.Mathlib.Omega.{arith}
use lib.ListN.{length}
use Rattle.definitions.specs.Answers.{Answer, given, refused, Result, gives, number}
use Rattle.definitions.specs.Codes.{Code, code_of}
use Rattle.definitions.specs.Patterns.{pattern_count}
use Rattle.definitions.specs.CodeOperations.{in_range, open_code, encode_code}
use Rattle.definitions.specs.PowersOfTwo.{log2, is_power_of_two}
use Rattle.definitions.specs.Packing.{packable, bit_count, byte_count, bit_of, unpack, Leftover, leftover_set, Bytes}
use Rattle.definitions.specs.PackingOperations.{open_packable, pack_code, unpack_code, Packed, Unpacked}
use Rattle.definitions.specs.Examples.{R, lent}
use Rattle.definitions.specs.FurtherExamples.{all_data}

pub code : Code
code = code_of R

abbrev message : List ℕ
message = 3 ∷ 2 ∷ 1 ∷ 0 ∷ 0 ∷ []

abbrev bytes : List ℕ
bytes = 51 ∷ 0 ∷ []

has_message : unpack_code R bytes (lent 5) ≡ gives message
unfolding
    R in_range pattern_count open_code log2 is_power_of_two packable bit_count byte_count unpack leftover_set open_packable unpack_code
has_message = refl

-- other bytes for a message
pub other_bytes : (out : List ℕ) → Packed R code message (given tt) out → out ≡ bytes
other_bytes out h = sym (h.only bytes (lent 5) (omega arith, (omega arith, tt)) has_message)

-- a symbol that is not below its radix, whatever the bytes
pub no_message : (x : List ℕ) → Unpacked R code x (given tt) (lent 5) → ⊥
unfolding code R
no_message x h = let b = (h.taken refl).is_message.levels.0 in omega arith

-- 19 although B is a multiple of 8
pub whole_byte_refused : (x out : List ℕ) (k : ℕ) → Unpacked (all_data 8 2) (code_of (all_data 8 2)) x (refused k) out → ⊥
unfolding log2 bit_count
whole_byte_refused x out k h = let e = h.whole refl in let z : ◌≡◌ {A = ℕ} 0 1 = cc in omega arith

module _ (b : List ℕ) (p : Code) where
  -- a leftover bit set, and another answer than 19: one that gives, as document 01 had it, or another number
  pub leftover_ignored : (x out : List ℕ) (a : Answer (Unit {0})) (k : ℕ) → Leftover p k → bit_of x k ≡ 1 → (number a ≡ some 19 → ⊥)
      → Unpacked b p x a out → ⊥
  leftover_ignored x out a k over set other h = other (h.leftover.0 (k, over, set))

  -- 19 although the leftover bits are 0
  pub clear-refused : (x out : List ℕ) → ((k : ℕ) → Leftover p k → bit_of x k ≡ 0) → Unpacked b p x (refused 19) out → ⊥
  clear-refused x out clear h = let (k, over, set) = h.leftover.1 refl in omega (arith, set, clear k over)

  -- bytes refused that pack made
  pub made-refused : (s x out lent : List ℕ) (k : ℕ) → pack_code b s lent ≡ gives x → Unpacked b p x (refused k) out → ⊥
  made-refused s x out lent k e h = let g = h.exactly.1 (s, lent, e) in let z : ◌≡◌ {A = ℕ} 0 1 = cc in omega arith

  -- bytes taken that pack makes of no message
  pub unmade_taken : (x out : List ℕ) → ((s lent : List ℕ) → pack_code b s lent ≡ gives x → ⊥) → Unpacked b p x (given tt) out → ⊥
  unmade_taken x out never h = let (s, lent, e) = h.exactly.0 refl in never s lent e

  -- one message for two byte strings, also if the other one is unpacked by the definition
  pub one_for_two_strings : (x y out lent : List ℕ) → length lent ≡ byte_count p → Unpacked b p x (given tt) out → Unpacked b p y (given tt) out → x ≡ y
  one_for_two_strings x y out lent l h g =
      ap (λ (r : Result (Unit {0})). r.out) (sym ((h.taken refl).back lent l) ∙ (g.taken refl).back lent l)

  pub other_string : (x y out lent : List ℕ) → Bytes y → unpack_code b y lent ≡ gives out → (y ≡ x → ⊥)
      → Unpacked b p x (given tt) out → ⊥
  other_string x y out lent small e other h = other ((h.taken refl).only y lent small e)

  -- one row for two byte strings: "two files for one exercise compared unequal although the cells agreed"
  pub one_row_for_two :
      (x y s t lent c cells more : List ℕ)
      → Bytes y
      → unpack_code b y lent ≡ gives t
      → encode_code b t cells ≡ gives c
      → encode_code b s more ≡ gives c
      → (y ≡ x → ⊥)
      → Unpacked b p x (given tt) s
      → ⊥
  one_row_for_two x y s t lent c cells more small e f g other h = other ((h.taken refl).rows y lent t c cells more small e f g)

  -- a message that fits refused; too few bytes; a leftover bit set in the bytes made
  pub refuses_bytes : (s out : List ℕ) (k : ℕ) → Packed b p s (refused k) out → ⊥
  refuses_bytes s out k h = let e = h.written in let z : ◌≡◌ {A = ℕ} 0 1 = cc in omega arith

  pub other_length : (s out : List ℕ) (a : Answer (Unit {0})) → (length out ≡ byte_count p → ⊥) → Packed b p s a out → ⊥
  other_length s out a other h = other h.is_bytes.long

  pub leftover-made : (s out : List ℕ) (a : Answer (Unit {0})) (k : ℕ) → Leftover p k → bit_of out k ≡ 1 → Packed b p s a out → ⊥
  leftover-made s out a k over set h = omega (arith, set, h.is_bytes.clear k over)

  -- the same bytes for two messages
  pub one_for_two_messages : (s t out lent : List ℕ) (a : Answer (Unit {0})) → length lent ≡ p.n → Packed b p s a out → Packed b p t a out → s ≡ t
  one_for_two_messages s t out lent a l h g = ap (λ (r : Result (Unit {0})). r.out) (sym (h.back lent l) ∙ g.back lent l)
