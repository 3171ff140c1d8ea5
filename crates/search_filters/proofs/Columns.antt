-- The multiples of a column, one after the other.
use mathlib.Core.Path.{◌≡◌, ap, ◌∙◌}
use Prim.Native.Nat.{ℕ, ◌+◌, ◌*◌, ◌%◌, ◌≤◌, ◌<◌}
use native.Mathlib.Nat.{mod-add-mod, add-mul, one-mul}
use native.Mathlib.Decide.{dec_lt}
use native.Mathlib.Omega.{arith}

pub multiple_more : (M g e x y : ℕ) → x ≡ (g * e) % M → y ≡ (x + e) % M → y ≡ ((g + 1) * e) % M
multiple_more M g e x y ex ey =
    ey ∙ ap (λ (v : ℕ). (v + e) % M) ex ∙ mod-add-mod (g * e) M e
    ∙ ap (λ (v : ℕ). v % M) (let q : g * e + e ≡ (g + 1) * e = omega (arith, add-mul g 1 e, one-mul e) in q)

-- what holds of the magnitudes up to one holds up to the next
pub up_to_more : (P : ℕ → Type 0) (mag : ℕ) → ((g : ℕ) → 1 ≤ g → g ≤ mag → P g) → P (mag + 1) → (g : ℕ) → 1 ≤ g → g ≤ mag + 1 → P g
up_to_more P mag before here g a b = step (dec_lt g (mag + 1))
  where
    step : Dec (g < mag + 1) → P g
    step (yes h) = before g a (omega arith)
    step (no h) = let e : g ≡ mag + 1 = omega arith in rw e here
