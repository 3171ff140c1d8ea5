use Rattle.std.proofs.Common.{ℕ, ◌<◌, arith, rules}
use Rattle.definitions.specs.Words.{at}
use Rattle.definitions.proofs.Tests.{below_each}
use Rattle.syndrome.proofs.Columns.{column-below}
use Rattle.opening.specs.Viewed.{code}
use Rattle.search_filters.proofs.mark_cells.Goals as goal

pub mark-requires-clause-bounds : goal.mark-requires-clause-bounds
mark-requires-clause-bounds c =
    let p = code c.args.code.now in
    let small : (i : ℕ) → at c.column_of.result i < p.M =
    λ i. omega (arith, c.column_of.ensures.entry i, column-below p i c.loop-c.c (search rules) (below_each p.M p.A (rw c.args.code.now.entries tt))) in
    (search rules, search rules, small, search rules, search rules)
