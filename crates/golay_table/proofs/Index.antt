-- The columns of the cells, and what their sum modulo 2 says of a word's syndrome.
use Rattle.std.proofs.Common.{◌≡◌, ℕ, suc, zero, ◌+◌, ◌*◌, ◌-◌, ◌%◌, ◌^◌, ◌<◌, Bool, true, List, [], ◌∷◌, ◌++◌, length, map, drop, get_or}
use Rattle.std.proofs.Common.{replicate, subst, refl, sym, ap, ◌∙◌, arith}
use native.Mathlib.Nat.{mul-zero, mul-one, zero-mul, zero-add, mod-mod}
use lib.Dec.{T}
use lib.Seq.{ext_get_or}
use Rattle.std.specs.Int.{bit_at}
use Rattle.std.specs.Int.Bits.{bit_xor}
use Rattle.std.specs.List.{list_all, enumerate_from}
use Rattle.std.specs.Simd.Lanes.{zip2, chunk, fold_l, sum_l}
use Rattle.std.proofs.lemmas.Nat.{xor_lt}
use Rattle.std.proofs.lemmas.Nat.Bits.{bit_at_xor, bit_at-zero, bit_at-lt}
use Rattle.definitions.specs.Words.{at, sum_to, up_from, same_word, EachCell}
use Rattle.definitions.specs.Codewords.{syndrome, syndrome_entry}
use Rattle.definitions.specs.Golay.{golay_code, golay_matrix, syndrome_of_index}
use Rattle.definitions.proofs.Tests.{same_eq, below_each}
use Rattle.word_laws.proofs.Cells.{map_same, same_map, up_from_bounds, up_from_mem, at-up_from, sum_same}
use Rattle.word_laws.proofs.Lists.{entry_passes}
use Rattle.word_laws.proofs.Remainders.{cong_mul}
use Rattle.syndrome.specs.Columns.{column}
use Rattle.syndrome.proofs.Columns.{entry_by_columns}
use Rattle.golay_table.specs.OddColumns.{odd_columns}
use Rattle.golay_table.specs.declared.TheConstants.{COLUMNS}

-- the columns of a vector, and all of them, cell by cell
abbrev pub row : ℕ → List ℕ
row t = get_or COLUMNS t []

columns : List ℕ
columns = row 0 ++ drop 9 (row 1)

-- a cell and its number: the number's bits are the column of that cell
is_column : ℕ × ℕ → Bool
is_column k = same_word (syndrome_of_index k.1) (map (λ i. column (golay_code 2) i k.0) (up_from 0 11))

are_columns : list_all is_column (enumerate_from 0 columns) ≡ true
unfolding columns is_column syndrome_of_index column golay_matrix
are_columns = refl

column_bit : (q k j : ℕ) → k < 11 → j < 23 → column (golay_code q) k j ≡ bit_at (at columns j) (10 - k)
unfolding columns is_column syndrome_of_index column
column_bit q k j g h =
    sym (same_map (λ k. bit_at (at columns j) (10 - k)) (λ i. column (golay_code 2) i j) (up_from 0 11)
    (same_eq _ _ (subst T (sym (entry_passes is_column columns are_columns j h)) tt)) k (up_from_mem 0 11 k (omega arith) (omega arith)))

-- numbers of eleven bits
abbrev Small : List ℕ → Type 0
Small xs = EachCell (λ v. v < 2 ^ 11) xs

fold_small : (xs : List ℕ) (a : ℕ) → a < 2 ^ 11 → Small xs → fold_l bit_xor a xs < 2 ^ 11
fold_small [] a h s = h
fold_small (x ∷ xs) a h s = fold_small xs (bit_xor a x) (xor_lt 11 a x h s.0) s.1

xor_small : (xs ys : List ℕ) → Small xs → Small ys → Small (zip2 bit_xor xs ys)
xor_small [] ys s t = tt
xor_small (x ∷ xs) [] s t = tt
xor_small (x ∷ xs) (y ∷ ys) s t = (xor_lt 11 x y s.0 t.0, xor_small xs ys s.1 t.1)

product_small : (c v : ℕ) → c < 2 ^ 11 → v < 2 → c * v < 2 ^ 11
product_small c v h l = grind arith

odd_small : (vs cs : List ℕ) → Small cs → Small (odd_columns vs cs)
odd_small [] cs s = tt
odd_small (v ∷ vs) [] s = tt
odd_small (v ∷ vs) (c ∷ cs) s = (product_small c (v % 2) s.0 (omega arith), odd_small vs cs s.1)

bit_of_product : (c v e : ℕ) → v < 2 → bit_at (c * v) e ≡ bit_at c e * v
bit_of_product c zero e h = rw (mul-zero c, mul-zero (bit_at c e)) (bit_at-zero e)
bit_of_product c (suc zero) e h = rw (mul-one c, mul-one (bit_at c e)) refl
bit_of_product c (suc (suc v)) e h = absurd (omega arith)

-- how many of some numbers have bit e, modulo 2, is bit e of their sum modulo 2
module _ (e : ℕ) where
  abbrev ones : List ℕ → ℕ
  ones [] = 0
  ones (x ∷ xs) = bit_at x e + ones xs

  fold_bit : (xs : List ℕ) (a : ℕ) → bit_at (fold_l bit_xor a xs) e ≡ (bit_at a e + ones xs) % 2
  fold_bit [] a = omega (arith, bit_at-lt a e)
  fold_bit (x ∷ xs) a = fold_bit xs (bit_xor a x) ∙ omega (arith, bit_at_xor a x e)

  xor_bits : (xs ys : List ℕ) → length xs ≡ length ys → ones (zip2 bit_xor xs ys) % 2 ≡ (ones xs + ones ys) % 2
  xor_bits [] [] h = refl
  xor_bits [] (y ∷ ys) h = absurd (omega arith)
  xor_bits (x ∷ xs) [] h = absurd (omega arith)
  xor_bits (x ∷ xs) (y ∷ ys) h = omega (arith, bit_at_xor x y e, xor_bits xs ys (omega arith))

  -- the cells by bit e of their columns
  abbrev part : List ℕ → List ℕ → ℕ
  part vs cs = sum_l (zip2 (λ v c. bit_at c e * v) vs cs)

  odd_bits : (vs cs : List ℕ) → ones (odd_columns vs cs) % 2 ≡ part vs cs % 2
  odd_bits [] cs = refl
  odd_bits (v ∷ vs) [] = refl
  odd_bits (v ∷ vs) (c ∷ cs) =
      omega (arith, bit_of_product c (v % 2) e (omega arith), cong_mul 2 (bit_at c e) (v % 2) v (mod-mod v 2), odd_bits vs cs)

  -- columns of 0 in front count nothing
  without_zeros : (n : ℕ) (vs cs : List ℕ) → part vs (replicate n 0 ++ cs) ≡ part (drop n vs) cs
  without_zeros zero vs cs = refl
  without_zeros (suc n) [] cs = refl
  without_zeros (suc n) (v ∷ vs) cs = omega (arith, without_zeros n vs cs, ap (λ (b : ℕ). b * v) (bit_at-zero e), zero-mul v)

-- the lanes: two vectors of cells, added
abbrev pub lanes : List ℕ → List ℕ
lanes y = zip2 bit_xor (odd_columns (chunk 0 16 y) (row 0)) (odd_columns (chunk 7 16 y) (row 1))

abbrev pub sum_of_lanes : List ℕ → ℕ
sum_of_lanes y = fold_l bit_xor 0 (lanes y)

pub sum_small : (y : List ℕ) → sum_of_lanes y < 2 ^ 11
sum_small y =
    fold_small (lanes y) 0 (omega arith)
    (xor_small (odd_columns (chunk 0 16 y) (row 0)) (odd_columns (chunk 7 16 y) (row 1))
    (odd_small (chunk 0 16 y) (row 0) (below_each 2048 (row 0) tt)) (odd_small (chunk 7 16 y) (row 1) (below_each 2048 (row 1) tt)))

-- the word whose cell j is f j
module _ (f : ℕ → ℕ) where
  abbrev cells : List ℕ
  cells = map f (up_from 0 23)

  at_cell : (j : ℕ) → j < 23 → at cells j ≡ f j
  at_cell j h = at-up_from f 0 23 j h ∙ ap f (zero-add j)

  index_bit : (e : ℕ) → bit_at (sum_of_lanes cells) e ≡ sum_to 23 (λ j. bit_at (at columns j) e * f j) % 2
  unfolding columns
  index_bit e =
      fold_bit e (lanes cells) 0
      ∙ omega (
        arith,
        bit_at-zero e,
        xor_bits e (odd_columns (chunk 0 16 cells) (row 0)) (odd_columns (chunk 7 16 cells) (row 1)) refl,
        odd_bits e (chunk 0 16 cells) (row 0),
        odd_bits e (chunk 7 16 cells) (row 1),
        without_zeros e 9 (chunk 7 16 cells) (drop 9 (row 1)),
      )

  index_right : (q : ℕ) → syndrome (golay_code q) cells ≡ syndrome_of_index (sum_of_lanes cells)
  unfolding syndrome syndrome_of_index
  index_right q = map_same (syndrome_entry (golay_code q) cells) (λ k. bit_at (sum_of_lanes cells) (10 - k)) (up_from 0 11) λ k m.
      let b : k < 11 = omega (arith, up_from_bounds 0 11 k m) in
      entry_by_columns (golay_code q) cells k b (omega arith)
      ∙ ap (λ (s : ℕ). s % 2) (sum_same 23 (λ j. column (golay_code q) k j * at cells j) (λ j. bit_at (at columns j) (10 - k) * f j)
      (λ j h. rw (column_bit q k j b h, at_cell j h) refl))
      ∙ sym (index_bit (10 - k))

-- and so of each word
pub sum_right : (y : List ℕ) → length y ≡ 23 → (q : ℕ) → syndrome (golay_code q) y ≡ syndrome_of_index (sum_of_lanes y)
sum_right y long q = subst (λ (z : List ℕ). syndrome (golay_code q) z ≡ syndrome_of_index (sum_of_lanes z)) listed (index_right (at y) q)
  where
    listed : cells (at y) ≡ y
    listed = ext_get_or 0 (cells (at y)) y (omega (arith, long)) λ j h. at_cell (at y) j (omega arith)
