-- Sums modulo M.
use mathlib.Core.Path.{◌≡◌, refl, sym, ap, ◌∙◌}
use Prim.Native.Nat.{ℕ, zero, suc, ◌+◌, ◌*◌, ◌-◌, ◌%◌, ◌<◌}
use native.Mathlib.Nat.{add-mod, zero-mul, suc-mul, mod-lt, mod-eq_of_lt, mod-eq-sub-mod, mod_self, mod-add-mod, add-mod-mod, mul-add-mod_self_left}
use native.Mathlib.Nat.{sub-zero, zero-add}
use native.Mathlib.Decide.{dec_lt}
use native.Mathlib.Omega.{arith}
use Rattle.definitions.specs.Words.{sum_to}

pub regroup : (a b c d : ℕ) → (a + b) + (c + d) ≡ (a + c) + (b + d)
regroup a b c d = omega arith

pub cong_add : (M x x' y y' : ℕ) → x % M ≡ x' % M → y % M ≡ y' % M → (x + y) % M ≡ (x' + y') % M
cong_add M x x' y y' p q = cc (add-mod x y M, add-mod x' y' M)

pub cong_mul : (M a y y' : ℕ) → y % M ≡ y' % M → (a * y) % M ≡ (a * y') % M
cong_mul M zero y y' p = simp zero-mul
cong_mul M (suc a) y y' p = simp suc-mul (cong_add M (a * y) (a * y') y y' (cong_mul M a y y' p) p)

pub sum-add : (M w : ℕ) (f g h : ℕ → ℕ) → ((j : ℕ) → f j % M ≡ (g j + h j) % M) → sum_to w f % M ≡ (sum_to w g + sum_to w h) % M
sum-add M zero f g h e = refl
sum-add M (suc w) f g h e =
    cong_add M (sum_to w f) (sum_to w g + sum_to w h) (f w) (g w + h w) (sum-add M w f g h e) (e w)
    ∙ ap (λ (z : ℕ). z % M) (regroup (sum_to w g) (sum_to w h) (g w) (h w))

-- what adds nothing is 0
pub cancel : (M a b : ℕ) → a < M → b < M → a ≡ (b + a) % M → b ≡ 0
cancel M a b ha hb h = step (dec_lt (b + a) M)
  where
    step : Dec (b + a < M) → b ≡ 0
    step (yes g) = let e : (b + a) % M ≡ b + a = mod-eq_of_lt g in omega arith
    step (no g) =
        let e : (b + a) % M ≡ (b + a - M) % M = mod-eq-sub-mod (omega arith) in
        let f : (b + a - M) % M ≡ b + a - M = mod-eq_of_lt (omega arith) in
        omega arith

-- what makes a sum 0 modulo M, with any multiple of M
pub fills : (M s v : ℕ) → 0 < M → (s + (M * v + (M - s % M) % M)) % M ≡ 0
fills M s v h =
    ap (λ (u : ℕ). u % M) (swap s (M * v) ((M - s % M) % M))
    ∙ mul-add-mod_self_left M v (s + (M - s % M) % M)
    ∙ add-mod-mod s (M - s % M) M
    ∙ sym (mod-add-mod s M (M - s % M))
    ∙ ap (λ (u : ℕ). u % M) (whole (s % M) M (mod-lt s h))
    ∙ mod_self M
  where
    swap : (a b c : ℕ) → a + (b + c) ≡ b + (a + c)
    swap a b c = omega arith

    whole : (a M : ℕ) → a < M → a + (M - a) ≡ M
    whole a M h = omega arith

-- and nothing else does
pub filled : (M s c : ℕ) → 0 < M → (s + c) % M ≡ 0 → (M - s % M) % M ≡ c % M
filled M s c h e = only (s % M) (c % M) (mod-lt s h) (mod-lt c h) (sym (add-mod s c M) ∙ e)
  where
    only : (a b : ℕ) → a < M → b < M → (a + b) % M ≡ 0 → (M - a) % M ≡ b
    only zero b ha hb k =
        ap (λ (u : ℕ). u % M) (sub-zero M) ∙ mod_self M
        ∙ sym (sym (mod-eq_of_lt hb) ∙ ap (λ (u : ℕ). u % M) (sym (zero-add b)) ∙ k)
    only (suc a) b ha hb k = mod-eq_of_lt (omega arith) ∙ step (dec_lt (suc a + b) M)
      where
        step : Dec (suc a + b < M) → M - suc a ≡ b
        step (yes g) = let f : (suc a + b) % M ≡ suc a + b = mod-eq_of_lt g in absurd (omega arith)
        step (no g) =
            let f : (suc a + b) % M ≡ (suc a + b - M) % M = mod-eq-sub-mod (omega arith) in
            let i : (suc a + b - M) % M ≡ suc a + b - M = mod-eq_of_lt (omega arith) in
            omega arith
