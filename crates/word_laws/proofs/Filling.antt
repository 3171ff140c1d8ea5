-- Arrays that a loop fills from the front.
use mathlib.Core.Path.{◌≡◌, refl, sym, ap, ◌∙◌}
use mathlib.Core.List.{List, [], ◌∷◌, ◌++◌}
use Prim.Native.Nat.{ℕ, zero, suc, ◌+◌, ◌-◌, ◌≤◌, ◌<◌}
use native.Mathlib.Decide.{dec_lt}
use native.Mathlib.Omega.{arith}
use lib.ListN.{length, set, replicate, take, drop, length-drop}
use lib.Seq.{get_or-set_same, get_or-set_other, take_all}
use Rattle.definitions.specs.Words.{at}

module _ (s : List ℕ) (i v : ℕ) (h : i < length s) (f : ℕ → ℕ) where
  pub store_more : ((j : ℕ) → j < i → at s j ≡ f j) → v ≡ f i → (j : ℕ) → j < i + 1 → at (set s i v) j ≡ f j
  store_more b e j g = step (dec_lt j i)
    where
      step : Dec (j < i) → at (set s i v) j ≡ f j
      step (yes l) = get_or-set_other s i j v 0 (λ q. omega arith) ∙ b j l
      step (no l) = let q : i ≡ j = omega arith in ap (at (set s i v)) (sym q) ∙ get_or-set_same s i v 0 h ∙ e ∙ ap f q

  pub store_rest : ((j : ℕ) → i ≤ j → at s j ≡ f j) → (j : ℕ) → i + 1 ≤ j → at (set s i v) j ≡ f j
  store_rest b j g = get_or-set_other s i j v 0 (λ q. omega arith) ∙ b j (omega arith)

pub zeros-at : (n j : ℕ) → at (replicate n 0) j ≡ 0
zeros-at zero j = refl
zeros-at (suc n) zero = refl
zeros-at (suc n) (suc j) = zeros-at n j

-- a slice from k to its end
pub take_rest : (k : ℕ) (s : List ℕ) → take (length s - k) (drop k s) ≡ drop k s
take_rest k s = take_all (length s - k) (drop k s) (simp length-drop (omega arith))

-- a copy over a list of the same length
pub copy_whole : (x y : List ℕ) → length y ≡ length x → take (length x) x ++ drop (length x) y ≡ x
copy_whole [] [] h = refl
copy_whole [] (b ∷ y) h = absurd (omega arith)
copy_whole (a ∷ x) [] h = absurd (omega arith)
copy_whole (a ∷ x) (b ∷ y) h = ap (λ (r : List ℕ). a ∷ r) (copy_whole x y (omega arith))
