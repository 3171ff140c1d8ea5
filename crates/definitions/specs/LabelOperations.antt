-- The operations on labels, for every table and every buffer: document 01's refusals in their order.
use Rattle.std.specs.Prelude.{◌≡◌, ◌&&◌, not, List, map, ℕ, eqb, length}
use Rattle.definitions.specs.Words.{all_below}
use Rattle.definitions.specs.Answers.{Answer, given, Result, refuse◌when◌else◌, result, after}
use Rattle.definitions.specs.CodeOperations.{between}
use Rattle.definitions.specs.PowersOfTwo.{is_power_of_two}
use Rattle.definitions.specs.Labels.{made_table, is_permutation, level_of, state_of}

-- document 01: make labels. The kind, and the table's buffer ("table length is q")
unfoldable pub make_labels : ℕ → List ℕ → Result (Unit {0})
make_labels kind table =
    result
    (refuse 2 when not (between 2 (length table) 64 && between 1 kind 3) else
    refuse 14 when not (eqb kind 1) && not (is_power_of_two (length table)) else
    given (tt, made_table kind (length table)))
    table

-- document 01: apply, either way. Label table, input, and the length of the output buffer
unfoldable pub applicable : List ℕ → List ℕ → ℕ → Answer (Unit {0})
applicable table input room =
    refuse 2 when not (between 2 (length table) 64) else
    refuse 13 when not (is_permutation table) else
    refuse 8 when not (eqb (length input) room) else
    refuse 10 when not (all_below (length table) input) else
    given tt

abbrev pub applied : (ℕ → ℕ) → List ℕ → List ℕ → List ℕ → Result (Unit {0})
applied each table input out = result (after (applicable table input (length out)) λ _. given (tt, map each input)) out

unfoldable pub to_levels : List ℕ → List ℕ → List ℕ → Result (Unit {0})
to_levels table states out = applied (level_of table) table states out

unfoldable pub to_states : List ℕ → List ℕ → List ℕ → Result (Unit {0})
to_states table levels out = applied (state_of table) table levels out

-- of an application that was not refused: applying the other way to what is in its output buffer gives its input back
abbrev pub GoesBack : (List ℕ → List ℕ → Result (Unit {0})) → List ℕ → Answer (Unit {0}) → List ℕ → Type 0
GoesBack other input answer out =
    answer ≡ given tt
    → (lent : List ℕ) → length lent ≡ length input → other out lent ≡ record { answer = given tt; out = input }
