-- What opening a description shows of the code.
use mathlib.Core.Path.{◌≡◌, subst}
use mathlib.Core.List.{List}
use Prim.Native.Nat.{ℕ, ◌+◌, ◌*◌, ◌-◌, ◌≤◌, ◌<◌}
use lib.Dec.{T, eqb, ltb, leb→le, eqb→eq}
use lib.ListN.{length}
use borrow.Author.Tests.{ltb-false}
use Rattle.definitions.specs.Words.{all_below}
use Rattle.definitions.specs.Answers.{given}
use Rattle.definitions.specs.Codes.{Code, code_of, data_cells}
use Rattle.definitions.specs.Patterns.{pattern_count}
use Rattle.definitions.specs.CodeOperations.{in_range, open_code}
use Rattle.definitions.proofs.Tests.{and_left, and_right}
use Rattle.code_theorems.proofs.Refusals.{not_refused, passed}

-- document 01's ranges
pub record Ranges (p : Code) : Type 0 where
  pub n-low : 1 ≤ p.n
  pub n-high : p.n ≤ 64
  pub r-high : p.r ≤ 12
  pub r-below : p.r < p.n
  pub q-low : 2 ≤ p.q
  pub q-high : p.q ≤ 64
  pub m-low : 2 ≤ p.M
  pub m-high : p.M ≤ p.q
  pub l-low : 1 ≤ p.l
  pub l-high : p.l ≤ p.M - 1
  pub t-high : p.t ≤ 3
  pub t-below : p.t ≤ p.n

pub ranges : (p : Code) → T (in_range p) → Ranges p
unfolding in_range
ranges p h = search (leb→le, and_left, and_right) depth 10

-- what the tests of opening show
pub record Passed (b : List ℕ) (p : Code) : Type 0 where
  pub range : Ranges p
  pub size : length b ≡ 6 + p.r * data_cells p
  pub entries : T (all_below p.M p.A)
  pub few : pattern_count p ≤ 4096

-- the code that opens is the description's, and has passed them
pub opened : (b : List ℕ) (p : Code) → open_code b ≡ given p → (code_of b ≡ p) × Passed b p
unfolding open_code
opened b p e =
    let q = code_of b in
    let (_, e₁) = not_refused 1 (ltb (length b) 6) _ p e in
    let (h₂, e₂) = passed 2 (in_range q) _ p e₁ in
    let (h₃, e₃) = passed 3 (eqb (length b) (6 + q.r * data_cells q)) _ p e₂ in
    let (h₄, e₄) = passed 4 (all_below q.M q.A) _ p e₃ in
    let (h₅, e₅) = not_refused 5 (ltb 4096 (pattern_count q)) _ p e₄ in
    let s : q ≡ p = cc in (
      s,
      subst (Passed b) s (record { range = ranges q h₂; size = eqb→eq _ _ h₃; entries = h₄; few = ltb-false _ _ h₅ }),
    )
