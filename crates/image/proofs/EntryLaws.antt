-- Whether an entry is right, by what was read of it.
use mathlib.Core.Path.{◌≡◌, ap}
use mathlib.Core.Bool.{Bool, true, false, ◌&&◌, cond}
use mathlib.Core.List.{List}
use Prim.Native.Nat.{ℕ, ◌+◌, ◌≤◌}
use lib.Dec.{eqb}
use Rattle.definitions.specs.CodeOperations.{test_code}
use Rattle.definitions.specs.StackOperations.{test_stack}
use Rattle.definitions.specs.Images.{body_passes, reference_right, entry_right, entries_right}
use Rattle.directory.proofs.Numbers.{left, left_next}

-- whether entry k of the image x is right, by its kind
abbrev pub right_for : List ℕ → ℕ → ℕ → Bool
right_for x k kind =
    cond (eqb kind 1) (body_passes test_code x k)
    (cond (eqb kind 2) (body_passes test_stack x k)
    (cond (eqb kind 3) (reference_right x k) false))

-- the loop over entries: k is the next of n
module _ (x : List ℕ) (n : ℕ) where
  pub first_wrong : (k : ℕ) → k ≤ n → entry_right x k ≡ false → entries_right x (left k n) ≡ false
  first_wrong k h e = rw (left_next k n h) (ap (λ (b : Bool). b && entries_right x (left (k + 1) n)) e)

  pub next_right : (k : ℕ) → k ≤ n → entry_right x k ≡ true → entries_right x (left k n) ≡ entries_right x (left (k + 1) n)
  next_right k h e = rw (left_next k n h) (ap (λ (b : Bool). b && entries_right x (left (k + 1) n)) e)
