-- Sixteen cells of a word as the lanes of a vector.
use Rattle.std.proofs.Common.{◌≡◌, ℕ, suc, zero, ◌*◌, ◌-◌, ◌%◌, ◌^◌, ◌<◌, ◌≤◌, List, [], ◌∷◌, map, length, take, drop, ap₂, refl, arith, replicate}
use native.Mathlib.Nat.{mul_comm, mod-eq_of_lt}
use Rattle.std.specs.Int.Bits.{bit_and}
use Rattle.std.specs.Simd.Lanes.{zip2, chunk}
use Rattle.std.proofs.lemmas.Nat.{and_mask}
use Rattle.std.proofs.lemmas.List.{take-take}
use Rattle.definitions.specs.Words.{EachCell}
use Rattle.golay_table.specs.OddColumns.{odd_columns}

odd_product : (v c : ℕ) → c < 2048 → bit_and v 1 * c % 2 ^ 16 ≡ c * (v % 2)
odd_product v c h = rw (and_mask v 1, mul_comm (v % 2 ^ 1) c) (mod-eq_of_lt (small (v % 2) (omega arith)))
  where
    small : (b : ℕ) → b < 2 → c * b < 2 ^ 16
    small b l = grind arith

-- lane by lane: the lowest bit of a level, which a cast to 16 bits keeps, times a column
pub odd_lanes :
    (vs cs : List ℕ) (n : ℕ) → length vs ≡ n → EachCell (λ c. c < 2048) cs
    → zip2 (λ a c. a * c % 2 ^ 16) (map (λ v. v) (zip2 bit_and vs (replicate n 1))) cs ≡ odd_columns vs cs
odd_lanes [] cs n l s = refl
odd_lanes (v ∷ vs) cs zero l s = absurd (omega arith)
odd_lanes (v ∷ vs) [] (suc n) l s = refl
odd_lanes (v ∷ vs) (c ∷ cs) (suc n) l s = ap₂ {C = List ℕ} (λ a b. a ∷ b) (odd_product v c s.0) (odd_lanes vs cs n (omega arith) s.1)

pub chunk_part : (first : ℕ) (word : List ℕ) → first ≤ 7 → chunk 0 16 (take (23 - first) (drop first word)) ≡ chunk first 16 word
chunk_part first word h = take-take 16 (23 - first) (drop first word) (omega arith)
