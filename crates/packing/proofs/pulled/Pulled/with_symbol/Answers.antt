use Rattle.std.proofs.Common.{arith, refl}
use Rattle.packing.proofs.Pulling.{value-few, same_first, pulled}
use Rattle.packing.proofs.pulled.Pulled.with_symbol.Goals as goal

pub overflow_add-result : goal.overflow_add-result
overflow_add-result c =
    let few = value-few c.args.symbols.now c.args.self c.requires.pulling c.requires.room.1 in
    record { fits = omega (arith, c.raised.ensures) }

pub returns : goal.returns
returns c =
    let fits = c.args.symbols.now.below c.args.self.cells c.requires.room.0 in (
      pulled c.args.symbols.now c.args.self c.requires.pulling c.requires.room.0 fits c.width_at.ensures c.raised.ensures.0,
      same_first c.args.symbols.now c.args.self c.requires.pulling c.requires.room.0 fits c.width_at.ensures c.raised.ensures.0,
      refl,
    )
