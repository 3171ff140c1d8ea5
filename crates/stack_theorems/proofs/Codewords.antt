-- The test for a codeword of a stack, and the test for a message, are the propositions.
use mathlib.Core.Logic.{◌↔◌}
use mathlib.Core.Bool.{Bool, ◌&&◌}
use mathlib.Core.List.{List, [], ◌∷◌}
use Prim.Native.Nat.{ℕ}
use lib.Dec.{T, eqb, eqb→eq}
use lib.ListN.{length, take, drop}
use Rattle.definitions.specs.Words.{all_below}
use Rattle.definitions.specs.Codes.{Code, data_cells}
use Rattle.definitions.specs.Codewords.{Codeword, is_codeword}
use Rattle.definitions.specs.Stacks.{Stack, levels, digits, all_planes}
use Rattle.definitions.specs.StackCodewords.{StackCodeword, is_stack_codeword}
use Rattle.definitions.specs.StackMessages.{DigitsBelow, digits_fit}
use Rattle.definitions.proofs.Tests.{and_left, and_right, and_both, eq_test, below_each, each_below}
use Rattle.code_theorems.proofs.Codewords.{test_codeword, codeword_test}
use Rattle.stack_theorems.proofs.Opened.{test_planes, planes_test}

pub stack_codeword_test : (S : Stack) (c : List ℕ) → T (is_stack_codeword S c) ↔ StackCodeword S c
unfolding is_stack_codeword
stack_codeword_test S c =
    let l = eqb (length c) S.n in
    let b = all_below (levels S) c in
    let is : ℕ → Code → Bool = λ w p. is_codeword p (digits w p.M c) in
    let Is : ℕ → Code → Type 0 = λ w p. Codeword p (digits w p.M c) in
    let p = all_planes is 1 S.planes in (
      (λ h. record {
        long = eqb→eq (length c) S.n (and_left l b (and_left (l && b) p h));
        bounded = below_each (levels S) c (and_right l b (and_left (l && b) p h));
        planes =
            test_planes is Is (λ w p. test_codeword p (digits w p.M c)) 1 S.planes (and_right (l && b) p h);
      }),
      (λ h. and_both (l && b) p (and_both l b (eq_test (length c) S.n h.long) (each_below (levels S) c h.bounded))
          (planes_test is Is (λ w p. codeword_test p (digits w p.M c)) 1 S.planes h.planes)),
    )

pub digits_test : (ps : List Code) (s : List ℕ) → T (digits_fit ps s) ↔ DigitsBelow ps s
digits_test [] s = ((λ h. tt), (λ h. tt))
digits_test (p ∷ ps) s =
    let f = all_below p.M (take (data_cells p) s) in
    let g = digits_fit ps (drop (data_cells p) s) in
    let r = digits_test ps (drop (data_cells p) s) in (
      (λ h. (below_each p.M (take (data_cells p) s) (and_left f g h), r.0 (and_right f g h))),
      (λ h. and_both f g (each_below p.M (take (data_cells p) s) h.0) (r.1 h.1)),
    )
