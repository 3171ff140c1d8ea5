use Rattle.std.proofs.Common.{◌≡◌, take}
use Rattle.definitions.specs.Stacks.{digits}
use Rattle.stack_operations.proofs.digits.Given as goal

abbrev pub invariant-loop-level : goal.invariant-loop-level
invariant-loop-level l = l.digits.items ≡ digits l.w l.c (take l.level-index l.word)
