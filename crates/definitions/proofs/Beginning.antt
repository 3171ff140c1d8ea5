-- What operations with an input and an output buffer begin with: the refusals of the description, then 8. Over the answer of opening, and
-- over the lengths that what was opened asks for.
use mathlib.Core.Bool.{◌&&◌, not}
use mathlib.Core.List.{List}
use Prim.Native.Nat.{ℕ}
use lib.Dec.{eqb}
use lib.ListN.{length}
use Rattle.definitions.specs.Answers.{Answer, Result, refuse◌when◌else◌, result, after}

module _ {A O : Type 0} (opening : Answer O) (x out : List ℕ) (read written : O → ℕ) (rest : O → Answer (A × List ℕ)) where
  abbrev pub operation : Result A
  operation =
      result
      (after opening λ o.
      refuse 8 when not (eqb (length x) (read o) && eqb (length out) (written o)) else
      rest o)
      out
