use Rattle.std.proofs.Common.{◌≡◌, ℕ, ◌+◌, ◌*◌, ◌-◌, ◌%◌, ◌<◌, ◌≤◌, length}
use Rattle.definitions.specs.Words.{at}
use Rattle.candidate_patterns.specs.Candidates.{magnitude_at}
use Rattle.stack_decoding.proofs.lower.Given as goal

abbrev pub invariant-loop-i : goal.invariant-loop-i
invariant-loop-i l = record {
  long : length l.levels ≡ length l.initial.levels;
  done : (j : ℕ) → j < l.i → at l.levels j ≡ (at l.initial.levels j + (l.q - magnitude_at l.k j * l.w)) % l.q;
  left : (j : ℕ) → l.i ≤ j → at l.levels j ≡ at l.initial.levels j;
}
