use Rattle.std.proofs.Common.{◌≤◌, length}
use Rattle.case_runner.proofs.fields.bytes.Given as goal

abbrev pub invariant-loop-word : goal.invariant-loop-word
invariant-loop-word l = goal.iterator-loop-word.can_next l.word-iterator × (length l.bytes.items ≤ l.most)
