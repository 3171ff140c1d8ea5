use Rattle.std.proofs.Common.{◌≡◌, ℕ, ◌+◌, ◌*◌, ◌<◌, ◌≤◌, length}
use Rattle.definitions.specs.Words.{at}
use Rattle.definitions.specs.StackMessages.{encode_plane}
use Rattle.opening.specs.Viewed.{code}
use Rattle.stack_operations.proofs.add_digits.Given as goal

abbrev pub invariant-loop-i : goal.invariant-loop-i
invariant-loop-i l = record {
  long : length l.levels ≡ length l.initial.levels;
  done : (j : ℕ) → j < l.i → at l.levels j ≡ at l.initial.levels j + at (encode_plane (code l.plane.code) l.symbols) j * l.plane.w;
  left : (j : ℕ) → l.i ≤ j → at l.levels j ≡ at l.initial.levels j;
}
