use Rattle.std.proofs.Common.{◌≡◌, ℕ, ◌+◌, ◌<◌, drop, length}
use Rattle.definitions.specs.Words.{at}
use Rattle.definitions.specs.StackMessages.{message_length}
use Rattle.stack_opening.specs.Planes.{as_codes}
use Rattle.stack_opening.specs.Viewed.{planes_of}
use Rattle.stack_operations.specs.Parts.{level_sum}
use Rattle.stack_operations.proofs.store_codeword.Given as goal

-- each level has the digits of the planes before, and those of the others are left
abbrev pub invariant-loop-plane : goal.invariant-loop-plane
invariant-loop-plane l = record {
  long : length l.out ≡ l.stack.n;
  room : length l.rest ≡ message_length (as_codes (drop l.plane-index (planes_of l.stack)));
  done : (i : ℕ) → i < l.stack.n
      → level_sum i (planes_of l.stack) l.message ≡ at l.out i + level_sum i (drop l.plane-index (planes_of l.stack)) l.rest;
}
