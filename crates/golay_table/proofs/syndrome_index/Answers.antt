use Rattle.std.proofs.Common.{◌≡◌, length, arith}
use Rattle.golay_table.proofs.Index.{sum_small, sum_right}
use Rattle.golay_table.proofs.syndrome_index.Goals as goal

pub returns-clause-below : goal.returns-clause-below
returns-clause-below c = rw (c.from.ensures, c.odd_columns.ensures, c.odd_columns-2.ensures) (sum_small c.args.word.now)

pub returns-clause-index : goal.returns-clause-index
returns-clause-index c =
    let long : length c.args.word.now ≡ 23 = omega arith in
    rw (c.from.ensures, c.odd_columns.ensures, c.odd_columns-2.ensures) (sum_right c.args.word.now long)
