-- Differences modulo M.
use mathlib.Core.Path.{◌≡◌, ap, ◌∙◌}
use Prim.Native.Nat.{ℕ, ◌+◌, ◌-◌, ◌%◌, ◌≤◌, ◌<◌}
use native.Mathlib.Nat.{add-mod_right}
use native.Mathlib.Decide.{dec_lt}
use native.Mathlib.Omega.{arith}
use borrow.Author.Tests.{lt-ltb, le-ltb}
use Rattle.search_filters.specs.Filters.{less_modulo}

module _ (M a e : ℕ) where
  pub less_under : a < e → a + (M - e) ≡ less_modulo M a e
  less_under h = simp (lt-ltb a e h)

  pub less_over : e ≤ a → a - e ≡ less_modulo M a e
  less_over h = simp (le-ltb a e h)

  pub less_below : a < M → e < M → less_modulo M a e < M
  less_below ha he = step (dec_lt a e)
    where
      step : Dec (a < e) → less_modulo M a e < M
      step (yes h) = rw (← less_under h) (omega arith)
      step (no h) = rw (← less_over (omega arith)) (omega arith)

  pub less_adds : e < M → (less_modulo M a e + e) % M ≡ a % M
  less_adds he = step (dec_lt a e)
    where
      step : Dec (a < e) → (less_modulo M a e + e) % M ≡ a % M
      step (yes h) = let q : a + (M - e) + e ≡ a + M = omega arith in rw (← less_under h) (ap (λ (v : ℕ). v % M) q ∙ add-mod_right a M)
      step (no h) = let q : a - e + e ≡ a = omega arith in rw (← less_over (omega arith)) (ap (λ (v : ℕ). v % M) q)
