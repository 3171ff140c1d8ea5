-- The entries of an array past its end.
use mathlib.Core.Path.{◌≡◌, sym}
use mathlib.Core.List.{List}
use Prim.Native.Nat.{ℕ, ◌<◌}
use native.Mathlib.Decide.{dec_lt}
use native.Mathlib.Omega.{arith}
use lib.ListN.{length}
use Rattle.definitions.specs.Words.{at}
use Rattle.word_laws.proofs.Cells.{at-past}

-- what entries are by those of two others, they are past the end too
pub past_too :
    (f : ℕ → ℕ → ℕ) (n : ℕ) (a b x : List ℕ) → f 0 0 ≡ 0 → length a ≡ n → length b ≡ n → length x ≡ n
    → ((i : ℕ) → i < n → at x i ≡ f (at a i) (at b i)) → (i : ℕ) → at x i ≡ f (at a i) (at b i)
past_too f n a b x none ea eb ex within i = step (dec_lt i n)
  where
    step : Dec (i < n) → at x i ≡ f (at a i) (at b i)
    step (yes h) = within i h
    step (no h) = rw (at-past x i (omega arith), at-past a i (omega arith), at-past b i (omega arith)) (sym none)
