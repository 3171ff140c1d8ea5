use Rattle.std.proofs.Common.{arith}
use Rattle.labeling.proofs.Marking.{none_marked, marked_twice, all_marked, permutation, no_permutation}
use Rattle.labeling.proofs.is_permutation.Goals as goal

pub loop-entry-init : goal.loop-entry-init
loop-entry-init c = none_marked c.args.table.now

pub returns-then-marked-level-clause-test : goal.returns-then-marked-level-clause-test
returns-then-marked-level-clause-test c =
    let both = no_permutation c.args.table.now
    (marked_twice _ c.loop-entry.marked c.loop-entry.entry-index c.from-level.result c.loop-entry.invariant c.from-level.ensures (omega arith)
    c.if-marked-level.true) in
    both.0

pub returns : goal.returns
returns c =
    let both = permutation c.args.table.now (all_marked _ c.loop-entry.marked c.loop-entry.entry-index c.loop-entry.invariant (omega arith)) in
    record { test = both.0; proposition = both.1 }
