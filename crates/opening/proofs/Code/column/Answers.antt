use Rattle.std.proofs.Common.{◌∙◌, rules}
use Rattle.opening.specs.Viewed.{code}
use Rattle.definitions.proofs.Tests.{below_each}
use Rattle.syndrome.proofs.Columns.{column_data, column-below}
use Rattle.opening.proofs.Code.column.Goals as goal

pub returns-then-cell-w : goal.returns-then-cell-w
returns-then-cell-w c =
    let p = code c.args.self.now in
    let e = c.from.ensures ∙ column_data p _ _ c.if-cell-w.true in
    (e, rw e (column-below p _ _ (search rules) (below_each p.M p.A (rw c.args.self.now.entries tt))))
