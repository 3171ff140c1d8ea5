use Rattle.std.proofs.Common.{◌≡◌, ◌∙◌, sym, true, List, ℕ, ◌+◌, ◌*◌, ◌≤◌, length, drop, arith, le-ltb, eq-eqb}
use Rattle.std.proofs.lemmas.List.{take_rest}
use Rattle.definitions.specs.Codes.{Code, code_of, data_cells}
use Rattle.definitions.specs.CodeOperations.{in_range, open_code}
use Rattle.opening.specs.Viewed.{matrix_tested}
use Rattle.opening.proofs.Code.open.Goals as goal

-- past the tests for 1, 2 and 3
opens :
    (b : List ℕ) (p : Code) → p ≡ code_of b → 6 ≤ length b → in_range p ≡ true → length b ≡ 6 + p.r * data_cells p → matrix_tested p ≡ open_code b
unfolding open_code
opens b p e h i s = rw (e, le-ltb (length b) 6 h, rw e at i, eq-eqb _ _ (rw e at s))

pub returns : goal.returns
returns c =
    let b = c.args.body.now in
    let i = sym (c.in_range.ensures.tested (drop 6 b)) ∙ c.if-not-in_range.false in
    (rw (take_rest b 6) at c.with_matrix.ensures) ∙ opens b _ c.read-parameters.ensures c.if-body-lt6.false i (omega arith)
