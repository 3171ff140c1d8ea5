use Rattle.std.proofs.Common.{◌≡◌, drop, length}
use Rattle.definitions.specs.StackMessages.{message_length, digits_fit}
use Rattle.stack_opening.specs.Planes.{as_codes}
use Rattle.stack_opening.specs.Viewed.{planes_of}
use Rattle.stack_operations.proofs.digits_fit.Given as goal

abbrev pub invariant-loop-plane : goal.invariant-loop-plane
invariant-loop-plane l = record {
  room : length l.left ≡ message_length (as_codes (drop l.plane-index (planes_of l.stack)));
  done : digits_fit (as_codes (planes_of l.stack)) l.message
      ≡ digits_fit (as_codes (drop l.plane-index (planes_of l.stack))) l.left;
}
