-- What is left of the test for a codeword, once the levels are in range.
use Rattle.std.proofs.Common.{◌≡◌, ◌∙◌, sym, ap, true, List, ℕ, ◌*◌, ◌/◌, ◌<◌, length, drop, eq-eqb}
use native.Mathlib.Nat.{mul-one, div_self}
use Rattle.definitions.specs.Words.{all_below, all_zero}
use Rattle.definitions.specs.Codewords.{syndrome, ceiling, is_codeword}
use Rattle.definitions.specs.Codes.{Code, data_cells}
use Rattle.definitions.specs.Stacks.{Stack, levels, digits, all_planes}
use Rattle.definitions.specs.StackCodewords.{is_stack_codeword}
use Rattle.definitions.proofs.Tests.{each_below}
use Rattle.word_laws.proofs.Cells.{each-drop}
use Rattle.code_theorems.proofs.Refusals.{is_true}
use Rattle.code_theorems.proofs.Codewords.{zero_decides}
use Rattle.stack_theorems.proofs.Digits.{digits-length, digits-small}
use Rattle.stack_theorems.proofs.Opened.{IsPlane, plane_pos}

-- the word of n cells has the digits of a plane p: they are a codeword if their syndrome is 0
pub digits_decide : (n : ℕ) (p : Code) → IsPlane n p → (w : ℕ) (c : List ℕ) → length c ≡ n
    → is_codeword p (digits w p.M c) ≡ all_zero (syndrome p (digits w p.M c))
digits_decide n p good w c long =
    let d = digits w p.M c in
    let pos = plane_pos n p good in
    let small = digits-small w p.M c pos in
    let whole : ceiling p ≡ p.M = ap (λ (q : ℕ). p.M * (q / p.M)) good.whole ∙ ap (λ (k : ℕ). p.M * k) (div_self pos) ∙ mul-one p.M in
    zero_decides p d (digits-length w p.M c ∙ long ∙ sym good.long) (let e = good.whole in rw e small)
    (ap (λ (k : ℕ). all_below k (drop (data_cells p) d)) whole
    ∙ is_true (all_below p.M (drop (data_cells p) d)) (each_below p.M (drop (data_cells p) d) (each-drop (λ v. v < p.M) (data_cells p) d small)))

-- what is left to test of a word of n levels below q
pub codeword_decides : (S : Stack) (c : List ℕ) → length c ≡ S.n → all_below (levels S) c ≡ true
    → is_stack_codeword S c ≡ all_planes (λ w p. is_codeword p (digits w p.M c)) 1 S.planes
unfolding is_stack_codeword
codeword_decides S c e h = rw (eq-eqb (length c) S.n e, h)
