-- The test for a codeword is the proposition; and what is left of it for a word of n levels below q.
use mathlib.Core.Path.{◌≡◌, ◌∙◌}
use mathlib.Core.Bool.{true, false, ◌&&◌}
use mathlib.Core.List.{List}
use Prim.Native.Nat.{ℕ, ◌<◌}
use native.Mathlib.Omega.{arith}
use lib.Dec.{T, eqb, eqb→eq}
use lib.ListN.{length, drop}
use borrow.Author.Tests.{eq-eqb}
use Rattle.definitions.specs.Words.{up_from, all_below, all_zero, EachCell}
use Rattle.definitions.specs.Codes.{Code, data_cells}
use Rattle.definitions.specs.Codewords.{syndrome_entry, syndrome, ceiling, Codeword, is_codeword}
use Rattle.definitions.proofs.Tests.{and_left, and_right, and_both, eq_test, below_each, each_below}
use Rattle.word_laws.proofs.Cells.{up_from_bounds, up_from_mem, zero-map, map-zero}
use Rattle.code_theorems.proofs.Refusals.{is_true}

module _ (p : Code) (c : List ℕ) where
  pub test_codeword : T (is_codeword p c) → Codeword p c
  unfolding is_codeword syndrome
  test_codeword h =
      let z = all_zero (syndrome p c) in
      let s = all_below (ceiling p) (drop (data_cells p) c) in
      let b = all_below p.q c in
      let l = eqb (length c) p.n in
      let h₁ : T (l && b && s) = and_left (l && b && s) z h in
      let h₂ : T (l && b) = and_left (l && b) s h₁ in
      record {
        long = eqb→eq (length c) p.n (and_left l b h₂);
        levels = below_each p.q c (and_right l b h₂);
        checks = below_each (ceiling p) (drop (data_cells p) c) (and_right (l && b) s h₁);
        zero = λ k g. zero-map (syndrome_entry p c) (up_from 0 p.r) (and_right (l && b && s) z h) k (up_from_mem 0 p.r k (omega arith) (omega arith));
      }

  pub codeword_test : Codeword p c → T (is_codeword p c)
  unfolding is_codeword syndrome
  codeword_test h =
      let z = all_zero (syndrome p c) in
      let s = all_below (ceiling p) (drop (data_cells p) c) in
      let b = all_below p.q c in
      let l = eqb (length c) p.n in
      and_both (l && b && s) z
      (and_both (l && b) s
      (and_both l b (eq_test (length c) p.n h.long) (each_below p.q c h.levels))
      (each_below (ceiling p) (drop (data_cells p) c) h.checks))
      (map-zero (syndrome_entry p c) (up_from 0 p.r) (λ k m. h.zero k (omega (arith, up_from_bounds 0 p.r k m))))

-- what is left to test of a word of n levels below q
module _ (p : Code) (c : List ℕ) (long : length c ≡ p.n) (levels : EachCell (λ v. v < p.q) c) where
  codeword_rest : is_codeword p c ≡ (all_below (ceiling p) (drop (data_cells p) c) && all_zero (syndrome p c))
  unfolding is_codeword
  codeword_rest = rw (eq-eqb (length c) p.n long, is_true (all_below p.q c) (each_below p.q c levels))

  pub too_high : all_below (ceiling p) (drop (data_cells p) c) ≡ false → is_codeword p c ≡ false
  too_high h = codeword_rest ∙ rw h

  pub zero_decides : all_below (ceiling p) (drop (data_cells p) c) ≡ true → is_codeword p c ≡ all_zero (syndrome p c)
  zero_decides h = codeword_rest ∙ rw h
