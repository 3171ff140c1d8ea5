use Rattle.std.proofs.Common.{take}
use Rattle.definitions.specs.CartridgeLists.{spaced}
use Rattle.row_lines.specs.Writing.{Adds}
use Rattle.row_lines.proofs.Lines.levels.Given as goal

abbrev pub invariant-loop-level : goal.invariant-loop-level
invariant-loop-level l = Adds l.initial.self (spaced (take l.level-index l.levels)) l.self
