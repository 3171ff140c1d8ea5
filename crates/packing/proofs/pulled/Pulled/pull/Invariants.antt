use Rattle.std.proofs.Common.{◌≡◌}
use Rattle.packing.specs.Pulling.{Pulling, first}
use Rattle.packing.proofs.pulled.Pulled.pull.Given as goal

abbrev pub invariant-loop : goal.invariant-loop
invariant-loop l = (l.pulled.cells ≡ l.counter) × Pulling l.symbols l.pulled × (first l.symbols l.pulled ≡ first l.symbols l.fn.self)
