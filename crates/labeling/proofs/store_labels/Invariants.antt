use Rattle.std.proofs.Common.{◌≡◌, ℕ, ◌<◌, length}
use Rattle.definitions.specs.Words.{at}
use Rattle.definitions.specs.Labels.{made_table}
use Rattle.labeling.specs.Labelings.{labeling_number}
use Rattle.labeling.proofs.store_labels.Given as goal

abbrev pub invariant-loop-s : goal.invariant-loop-s
invariant-loop-s l = (k : ℕ) → k < l.s → at l.table k ≡ at (made_table (labeling_number l.labeling) (length l.initial.table)) k
