-- The test of each byte against 0.
use Rattle.std.proofs.Common.{◌≡◌, refl, ℕ, suc, List, [], ◌∷◌, nat_eq, length, le-ltb, ne_eqb, arith}
use Rattle.definitions.specs.Words.{all_below}

-- nothing is below 0
pub below-zero : (s : List ℕ) → nat_eq (length s) 0 ≡ all_below 0 s
below-zero [] = refl
below-zero (a ∷ s) = simp (le-ltb a 0 (omega arith), ne_eqb (suc (length s)) 0 (λ e. omega arith))
