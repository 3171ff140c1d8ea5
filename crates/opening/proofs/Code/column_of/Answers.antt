use Rattle.std.proofs.Common.{arith, rules}
use Rattle.syndrome.specs.Columns.{column}
use Rattle.opening.specs.Viewed.{code}
use Rattle.syndrome.proofs.Columns.{stored_first, column-past}
use Rattle.opening.proofs.Code.column_of.Goals as goal

pub returns-clause-entry : goal.returns-clause-entry
returns-clause-entry g c =
    let p = code c.args.self.now in
    stored_first (λ j. column p j c.args.cell) c.loop-i.entry-items p.r g.row.N (search rules) (λ j h. c.loop-i.invariant j (omega arith))
    (λ j h. column-past p j c.args.cell c.args.self.now.size h c.requires.0)
