-- The Gray level: below 2 ^ k where the state is, and different for different states.
use mathlib.Core.Path.{◌≡◌, refl, sym, ap, ◌∙◌}
use Prim.Native.Nat.{ℕ, zero, suc, ◌+◌, ◌*◌, ◌/◌, ◌%◌, ◌^◌, ◌<◌}
use native.Mathlib.Nat.{pow-suc, mod-eq_of_lt, div-le_self, lt_of_le_of_lt}
use native.Mathlib.Omega.{arith}
use lib.Arith.{lt-one}
use lib.Bits.{bit_xor, differ, xor_step, xor_lt}
use Rattle.definitions.specs.Labels.{gray}

pub gray-below : (k s : ℕ) → s < 2 ^ k → gray s < 2 ^ k
unfolding gray
gray-below k s h = xor_lt k s (s / 2) h (lt_of_le_of_lt (div-le_self s 2) h)

-- the exclusive or of two bits
differ_bits : (x y : ℕ) → x < 2 → y < 2 → differ x y ≡ (x + y) % 2
differ_bits zero y a b = sym (ap (λ (z : ℕ). z % 2) (omega arith) ∙ mod-eq_of_lt b)
differ_bits (suc zero) zero a b = refl
differ_bits (suc zero) (suc zero) a b = refl
differ_bits (suc zero) (suc (suc y)) a b = absurd (omega arith)
differ_bits (suc (suc x)) y a b = absurd (omega arith)

-- the lowest bit, and the rest
gray_step : (s : ℕ) → gray s ≡ gray (s / 2) * 2 + (s % 2 + s / 2 % 2) % 2
unfolding gray
gray_step s =
    xor_step s (s / 2)
    ∙ ap (λ (z : ℕ). bit_xor (s / 2) (s / 2 / 2) * 2 + z) (differ_bits (s % 2) (s / 2 % 2) (omega arith) (omega arith))

-- equal levels: the rests of the states are equal, then their lowest bits, above the bit z that they share
rests : (x y a b : ℕ) → x * 2 + a % 2 ≡ y * 2 + b % 2 → x ≡ y
rests x y a b e = omega arith

ends : (x y a b : ℕ) → x * 2 + a % 2 ≡ y * 2 + b % 2 → a % 2 ≡ b % 2
ends x y a b e = omega arith

lowest : (s t z : ℕ) → (s % 2 + z) % 2 ≡ (t % 2 + z) % 2 → s % 2 ≡ t % 2
lowest s t z e = omega arith

whole : (s t : ℕ) → s / 2 ≡ t / 2 → s % 2 ≡ t % 2 → s ≡ t
whole s t d r = omega arith

pub gray-apart : (k s t : ℕ) → s < 2 ^ k → t < 2 ^ k → gray s ≡ gray t → s ≡ t
gray-apart zero s t a b e = lt-one a ∙ sym (lt-one b)
gray-apart (suc k) s t a b e =
    let u = s % 2 + s / 2 % 2 in
    let v = t % 2 + t / 2 % 2 in
    let h = sym (gray_step s) ∙ e ∙ gray_step t in
    let half : s / 2 ≡ t / 2 = gray-apart k (s / 2) (t / 2) (halved s a) (halved t b) (rests (gray (s / 2)) (gray (t / 2)) u v h) in
    let bits : u % 2 ≡ (t % 2 + s / 2 % 2) % 2 = ends (gray (s / 2)) (gray (t / 2)) u v h ∙ ap (λ (x : ℕ). (t % 2 + x % 2) % 2) (sym half) in
    whole s t half (lowest s t (s / 2 % 2) bits)
  where
    halved : (x : ℕ) → x < 2 ^ suc k → x / 2 < 2 ^ k
    halved x h = omega (arith, pow-suc 2 k)
