-- Codewords and acceptance of a stack.
use Rattle.std.specs.Prelude.{◌≡◌, Bool, ◌&&◌, List, ℕ, ◌<◌, eqb, length}
use Rattle.definitions.specs.Words.{all_below, EachCell}
use Rattle.definitions.specs.Stacks.{Stack, levels, digits, EachPlane, all_planes}
use Rattle.definitions.specs.Codewords.{Codeword, is_codeword}
use Rattle.definitions.specs.Acceptance.{Accepted, accepted}

-- a word of n levels below q "whose digits j are a codeword of plane j, for every j"
pub record StackCodeword (S : Stack) (c : List ℕ) : Type 0 where
  pub long : length c ≡ S.n
  pub bounded : EachCell (λ v. v < levels S) c
  pub planes : EachPlane (λ w p. Codeword p (digits w p.M c)) 1 S.planes

-- the same as a test
unfoldable pub is_stack_codeword : Stack → List ℕ → Bool
is_stack_codeword S c =
    eqb (length c) S.n && all_below (levels S) c && all_planes (λ w p. is_codeword p (digits w p.M c)) 1 S.planes

-- each plane is accepted
abbrev pub AcceptedStack : Stack → Type 0
AcceptedStack S = EachPlane (λ w p. Accepted p) 1 S.planes

unfoldable pub accepted_stack : Stack → Bool
accepted_stack S = all_planes (λ w p. accepted p) 1 S.planes
