-- The numbers k to n that a loop over entries still has before it.
use mathlib.Core.Path.{◌≡◌}
use mathlib.Core.List.{List, [], ◌∷◌}
use Prim.Native.Nat.{ℕ, suc, ◌+◌, ◌-◌, ◌≤◌, ◌<◌}
use native.Mathlib.Numerals.{add-one}
use native.Mathlib.Omega.{arith}
use Rattle.definitions.specs.Words.{up_from}

abbrev pub left : ℕ → ℕ → List ℕ
left k n = up_from k (n + 1 - k)

pub left_first : (n : ℕ) → up_from 1 n ≡ left 1 n
left_first n = let e : n + 1 - 1 ≡ n = omega arith in rw e

pub left_next : (k n : ℕ) → k ≤ n → left k n ≡ k ∷ left (k + 1) n
left_next k n h = let e : n + 1 - k ≡ suc (n + 1 - (k + 1)) = omega arith in rw (e, add-one k)

pub left_end : (k n : ℕ) → n < k → left k n ≡ []
left_end k n h = let e : n + 1 - k ≡ 0 = omega arith in rw e
