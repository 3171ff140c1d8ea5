use Rattle.std.proofs.Common.{sym}
use Rattle.row_lines.proofs.Putting.{adds_as, adds_then}
use Rattle.row_lines.proofs.Texts.{levels_left, spaced_more}
use Rattle.row_lines.proofs.Lines.levels.Goals as goal

pub spaced-requires-clause-room : goal.spaced-requires-clause-room
spaced-requires-clause-room c = levels_left c.args.levels.now c.loop-level.level-index c.loop-level-test.true c.requires.room c.loop-level.invariant

pub loop-level-preserved : goal.loop-level-preserved
loop-level-preserved c =
    let e = c.from.ensures in
    adds_as (sym (spaced_more c.args.levels.now c.loop-level.level-index c.loop-level-test.true)) (rw (← e) (adds_then c.loop-level.invariant c.spaced.ensures))
