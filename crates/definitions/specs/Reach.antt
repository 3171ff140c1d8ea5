-- Within reach: the customer's term in demand 3, in words of levels alone.
use Rattle.std.specs.Prelude.{List, ℕ, ◌+◌, ◌-◌, ◌%◌, ◌≤◌}
use Rattle.definitions.specs.Words.{map2, weight, distance, EachPair}
use Rattle.definitions.specs.Codes.{Code}
use Rattle.definitions.specs.Stacks.{Stack, levels, digits, EachPlane}

-- c is nowhere above the levels read y, lower in at most t cells, by at most l in each
pub record Reach (p : Code) (y c : List ℕ) : Type 0 where
  pub cells : EachPair (λ a b. (b ≤ a) × (a ≤ b + p.l)) y c
  pub few : distance c y ≤ p.t

-- (read - codeword) modulo q, cell by cell
abbrev pub difference : ℕ → List ℕ → List ℕ → List ℕ
difference q y c = map2 (λ a b. (a + (q - b)) % q) y c

-- (read - codeword) modulo q has, for every plane, at most t cells with a nonzero digit
abbrev pub StackReach : Stack → List ℕ → List ℕ → Type 0
StackReach S y c = EachPlane (λ w p. weight (digits w p.M (difference (levels S) y c)) ≤ p.t) 1 S.planes
