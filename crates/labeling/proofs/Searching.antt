-- The state of a level is the first place at which the level stands.
use Rattle.std.proofs.Common.{◌≡◌, refl, sym, ap, arith, ◌∙◌, List, ℕ, Bool, true, false, length}
use Rattle.std.proofs.lemmas.Bool.{ltb-false}
use Rattle.std.proofs.lemmas.List.Recursion.{is_position_or_len}
use Rattle.std.proofs.lemmas.List.Sums.{prefix_len-le-length}
use Rattle.std.specs.List.{position, position_or_len}
use Rattle.std.specs.Prelude.{nat_eq, nat_lt, cond, not, Option, Some, None, unwrap_or}
use Rattle.definitions.specs.Labels.{state_of}

module _ (t : List ℕ) (level : ℕ) where
  first_place : state_of t level ≡ position_or_len (λ x. nat_eq x level) t
  first_place = is_position_or_len (λ u. state_of u level) (λ x. nat_eq x level) refl (λ x xs. ap (cond (nat_eq x level) 0) (omega arith)) t

  pub state_found : (place : Option ℕ) → place ≡ position (λ x. nat_eq x level) t → unwrap_or place (length t) ≡ state_of t level
  state_found place e = ap (λ (u : Option ℕ). unwrap_or u (length t)) e ∙ step (nat_lt first (length t)) refl ∙ sym first_place
    where
      first : ℕ
      first = position_or_len (λ x. nat_eq x level) t

      step : (b : Bool) → nat_lt first (length t) ≡ b → unwrap_or (cond b (Some first) None) (length t) ≡ first
      step true h = refl
      step false h = let low = prefix_len-le-length (λ x. not (nat_eq x level)) t in omega (arith, ltb-false first (length t) h)
