use Rattle.labeling.proofs.Marking.{Marked}
use Rattle.labeling.proofs.is_permutation.Given as goal

abbrev pub invariant-loop-entry : goal.invariant-loop-entry
invariant-loop-entry l = Marked l.table l.marked l.entry-index
