-- The test of the levels, in two vectors.
use Rattle.std.proofs.Common.{◌≡◌, ℕ, ◌+◌, ◌*◌, ◌-◌, ◌%◌, ◌^◌, ◌<◌, ◌≤◌, ◌&&◌, cond, leb, ltb, nat_eq, List, [], ◌∷◌, map, length}
use Rattle.std.proofs.Common.{replicate, take, drop, refl, sym, ap, ◌∙◌, subst, arith, w8, inl, inr, ◌⊎◌}
use lib.Dec.{T}
use lib.Lanes.{mask_l, top}
use borrow.Author.Tests.{le-leb, lt-leb, lt-ltb, le-ltb, ne_eqb}
use Rattle.std.specs.Cmp.{both_ways}
use Rattle.std.specs.Simd.Lanes.{zip2, chunk}
use Rattle.std.proofs.lemmas.Bool.Decides.{nat_tests}
use Rattle.std.proofs.lemmas.Bool.{cases_lt}
use Rattle.std.proofs.lemmas.List.{take-take, length-map}
use Rattle.std.proofs.lemmas.Simd.{tops_compared, zip2_splat_left, mask_l-mod, length-chunk, get_or-chunk}
use Rattle.definitions.specs.Words.{at, all_below}
use Rattle.definitions.proofs.Tests.{and_left, and_right, and_both, below_each, each_below}
use Rattle.word_laws.proofs.Cells.{each_at, at_each, each_take, each-drop}
use Rattle.code_theorems.proofs.Refusals.{is_true}

twice : (m : ℕ) → nat_eq (0 + 2 * m) 0 ≡ nat_eq m 0
twice m = grind (arith, nat_tests)

-- no lane is q or more
no_lane : (q : ℕ) (xs : List ℕ) → nat_eq (mask_l (map (leb q) xs)) 0 ≡ all_below q xs
no_lane q [] = refl
no_lane q (x ∷ xs) = step (cases_lt x q) (no_lane q xs)
  where
    step : (x < q) ⊎ (q ≤ x) → nat_eq (mask_l (map (leb q) xs)) 0 ≡ all_below q xs
        → nat_eq (cond (leb q x) 1 0 + 2 * mask_l (map (leb q) xs)) 0 ≡ (ltb x q && all_below q xs)
    step (inl l) h = rw (lt-leb q x l, lt-ltb x q l) (twice (mask_l (map (leb q) xs)) ∙ h)
    step (inr g) h = rw (le-leb q x g, le-ltb x q g) (ne_eqb (1 + 2 * mask_l (map (leb q) xs)) 0 (λ e. omega arith))

-- the lanes of sixteen cells from `first` on
pub lanes_below : (q : ℕ) (word : List ℕ) (first : ℕ) → length word ≡ 23 → first ≤ 7
    → nat_eq (mask_l (map (top 7) (zip2 (λ a b. cond (leb a b) 255 0) (replicate 16 q) (chunk 0 16 (take (23 - first) (drop first word))))) % 2 ^ 64) 0
    ≡ all_below q (chunk first 16 word)
lanes_below q word first long h =
    let xs = chunk first 16 word in
    let sixteen : length xs ≡ 16 = length-chunk first 16 word (omega arith) in
    rw (take-take 16 (23 - first) (drop first word) (omega arith))
    (ap (λ (k : ℕ). nat_eq k 0)
    (ap (λ ms. mask_l ms % 2 ^ 64) (tops_compared w8 leb (replicate 16 q) xs ∙ zip2_splat_left leb q 16 xs sixteen)
    ∙ mask_l-mod (map (leb q) xs) 64 (omega (arith, length-map xs (leb q))))
    ∙ no_lane q xs)

-- sixteen cells from the first on and sixteen from the eighth on are all
module _ (q : ℕ) (y : List ℕ) (long : length y ≡ 23) where
  whole : T (all_below q (chunk 0 16 y) && all_below q (chunk 7 16 y)) → T (all_below q y)
  whole t = each_below q y (at_each (λ v. v < q) y λ j h. step j (omega arith) (cases_lt j 16))
    where
      part : (first : ℕ) → first ≤ 7 → T (all_below q (chunk first 16 y)) → (i : ℕ) → i < 16 → at y (first + i) < q
      part first b s i l =
          subst (λ (v : ℕ). v < q) (get_or-chunk first 16 y i 0 l)
          (each_at (λ v. v < q) (chunk first 16 y) (below_each q (chunk first 16 y) s) i (omega (arith, length-chunk first 16 y (omega arith))))

      step : (j : ℕ) → j < 23 → (j < 16) ⊎ (16 ≤ j) → at y j < q
      step j b (inl l) = subst (λ (i : ℕ). at y i < q) (omega arith) (part 0 (omega arith) (and_left (all_below q (chunk 0 16 y)) _ t) j l)
      step j b (inr g) =
          subst (λ (i : ℕ). at y i < q) (omega arith) (part 7 (omega arith) (and_right (all_below q (chunk 0 16 y)) _ t) (j - 7) (omega arith))

  parts : T (all_below q y) → T (all_below q (chunk 0 16 y) && all_below q (chunk 7 16 y))
  parts t = and_both (all_below q (chunk 0 16 y)) (all_below q (chunk 7 16 y)) (part 0) (part 7)
    where
      part : (first : ℕ) → T (all_below q (chunk first 16 y))
      part first = each_below q (chunk first 16 y) (each_take (λ v. v < q) 16 (drop first y) (each-drop (λ v. v < q) first y (below_each q y t)))

  pub both_below : (all_below q (chunk 0 16 y) && all_below q (chunk 7 16 y)) ≡ all_below q y
  both_below = both_ways _ _ (λ e. is_true _ (whole (subst T (sym e) tt))) (λ e. is_true _ (parts (subst T (sym e) tt)))
