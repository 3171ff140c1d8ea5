use Rattle.std.proofs.Common.{◌≡◌, length, subst, sym, arith}
use lib.Dec.{T}
use Rattle.std.proofs.lemmas.Simd.{length-chunk}
use Rattle.definitions.proofs.Tests.{below_each}
use Rattle.golay_table.proofs.Lanes.{odd_lanes, chunk_part}
use Rattle.golay_table.proofs.odd_columns.Goals as goal

pub returns : goal.returns
returns c =
    let long : length c.args.word.now ≡ 23 = omega arith in
    rw (chunk_part c.args.first c.args.word.now c.requires.room)
    (odd_lanes _ c.args.columns 16 (length-chunk c.args.first 16 c.args.word.now (omega arith))
    (below_each 2048 c.args.columns (subst T (sym c.requires.small) tt)))
