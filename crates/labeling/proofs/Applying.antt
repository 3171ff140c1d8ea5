-- From the check of table, input and output buffer to the operations, and from their equations to their clauses.
use mathlib.Core.Path.{◌≡◌, sym, subst}
use mathlib.Core.List.{List, map}
use Prim.Native.Nat.{ℕ, ◌≤◌, ◌<◌}
use native.Mathlib.Omega.{arith}
use lib.Dec.{leb, leb→le}
use lib.ListN.{length, length-map}
use lib.Seq.{ext_get_or}
use Rattle.definitions.specs.Words.{at}
use Rattle.definitions.specs.Answers as answers
use Rattle.definitions.specs.Answers.{Answer, given}
use Rattle.definitions.specs.Labels.{level_of, state_of}
use Rattle.definitions.specs.LabelOperations.{applicable, applied, to_levels, to_states, GoesBack}
use Rattle.definitions.proofs.Tests.{and_right, below_each}
use Rattle.word_laws.proofs.Cells.{each_at}
use Rattle.answers.specs.Answering.{leaves}
use Rattle.labeling_theorems.proofs.Applying.{applicable_met, levels_go_back, states_go_back}

-- a table, an input and a room that passed the check
module _ (t x : List ℕ) (room : ℕ) (e : given tt ≡ applicable t x room) where
  pub same_length : length x ≡ room
  same_length = (applicable_met t x room (sym e)).long

  pub table_small : length t ≤ 64
  table_small = leb→le (length t) 64 (and_right (leb 2 (length t)) (leb (length t) 64) (applicable_met t x room (sym e)).size)

  pub input_below : (i : ℕ) → i < length x → at x i < length t
  input_below = each_at (λ v. v < length t) x (below_each (length t) x (applicable_met t x room (sym e)).below)

-- what is stored is what f makes of each cell
pub all_stored :
    (f : ℕ → ℕ) (t x lent out : List ℕ) → given tt ≡ applicable t x (length lent) → length out ≡ length lent
    → ((k : ℕ) → k < length lent → at out k ≡ at (map f x) k) → leaves (given tt) out ≡ applied f t x lent
all_stored f t x lent out e long cells =
    let same = ext_get_or 0 out (map f x) (omega (arith, length-map x f, same_length t x _ e)) (λ k h. cells k (omega arith)) in
    rw (← e, same)

-- what is true of an equation's right side is true of its left
carried :
    (P : Answer (Unit {0}) → List ℕ → Type 0) (r : answers.Result (Unit {0})) {a : Answer (Unit {0})} {out : List ℕ} → leaves a out ≡ r
    → P r.answer r.out → P a out
carried P r e h = subst (λ (u : answers.Result (Unit {0})). P u.answer u.out) (sym e) h

module _ (t x lent : List ℕ) {a : Answer (Unit {0})} {out : List ℕ} where
  pub levels_back : leaves a out ≡ applied (level_of t) t x lent → GoesBack (to_states t) x a out
  unfolding to_levels
  levels_back e = carried (GoesBack (to_states t) x) (to_levels t x lent) e (levels_go_back t x lent)

  pub states_back : leaves a out ≡ applied (state_of t) t x lent → GoesBack (to_levels t) x a out
  unfolding to_states
  states_back e = carried (GoesBack (to_levels t) x) (to_states t x lent) e (states_go_back t x lent)
