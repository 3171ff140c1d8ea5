use Rattle.std.proofs.Common.{◌≡◌, ◌+◌, ◌++◌, take, drop, length}
use Rattle.definitions.specs.StackMessages.{message_length}
use Rattle.stack_opening.specs.Planes.{as_codes}
use Rattle.stack_opening.specs.Viewed.{planes_of}
use Rattle.stack_operations.specs.Parts.{parts}
use Rattle.stack_operations.proofs.store_message.Given as goal

abbrev pub invariant-loop-plane : goal.invariant-loop-plane
invariant-loop-plane l = record {
  long : length l.out ≡ length l.initial.out;
  room : l.at + message_length (as_codes (drop l.plane-index (planes_of l.stack))) ≡ length l.initial.out;
  done : parts l.word (planes_of l.stack) ≡ take l.at l.out ++ parts l.word (drop l.plane-index (planes_of l.stack));
}
