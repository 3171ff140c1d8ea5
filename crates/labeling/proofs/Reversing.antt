-- The m lowest bits of a byte in opposite order are the highest of the byte that has all of them so.
use Rattle.std.proofs.Common.{◌≡◌, refl, sym, ap, ap₂, ◌∙◌, arith, ℕ, zero, suc, ◌+◌, ◌-◌, ◌/◌, ◌^◌, ◌≤◌, w8}
use Rattle.std.specs.Int.{reverse_bits, reverse_bits_onto}
use native.Mathlib.Nat.{div-one}
use native.Mathlib.Numerals.{add-one}
use lib.Pow.{shr-shr}
use Rattle.definitions.specs.Labels.{reversed}
use Rattle.labeling_theorems.proofs.ReversedLevels.{reversed_highest}

-- j bits of s are reversed, and k are left
more_bits : (s j k m : ℕ) → m ≡ j + k → reverse_bits_onto k (s / 2 ^ j) (reversed j s) ≡ reversed m s
unfolding reverse_bits_onto
more_bits s j zero m e = let h : j ≡ m = omega arith in ap (λ (u : ℕ). reversed u s) h
more_bits s j (suc k) m e =
    let rest : s / 2 ^ j / 2 ≡ s / 2 ^ suc j = shr-shr s j 1 ∙ ap (λ (u : ℕ). s / 2 ^ u) (add-one j) in
    ap₂ (reverse_bits_onto k) rest (sym (reversed_highest j s)) ∙ more_bits s (suc j) k m (omega arith)

-- the m highest of n reversed bits
highest_bits : (m s k n : ℕ) → n ≡ m + k → reversed n s / 2 ^ k ≡ reversed m s
highest_bits m s zero n e = let h : n ≡ m = omega arith in ap (λ (u : ℕ). reversed u s / 2 ^ 0) h ∙ div-one (reversed m s)
highest_bits m s (suc k) n e =
    let next : suc k ≡ 1 + k = omega arith in
    let more : n ≡ suc (m + k) = omega arith in
    let half : reversed (suc (m + k)) s / 2 ≡ reversed (m + k) s = omega (arith, reversed_highest (m + k) s) in
    ap₂ (λ (u v : ℕ). reversed u s / 2 ^ v) more next
    ∙ sym (shr-shr (reversed (suc (m + k)) s) 1 k)
    ∙ ap (λ (u : ℕ). u / 2 ^ k) half
    ∙ highest_bits m s k (m + k) refl

pub by_machine : (m s : ℕ) → m ≤ 8 → reverse_bits w8 s / 2 ^ (8 - m) ≡ reversed m s
unfolding reversed
by_machine m s h =
    let whole : reverse_bits w8 s ≡ reversed 8 s = ap (λ (u : ℕ). reverse_bits_onto 8 u 0) (sym (div-one s)) ∙ more_bits s 0 8 8 refl in
    ap (λ (u : ℕ). u / 2 ^ (8 - m)) whole ∙ highest_bits m s (8 - m) 8 (omega arith)
