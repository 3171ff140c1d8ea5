use Rattle.std.proofs.Common.{rules}
use Rattle.definitions.specs.PackingOperations.{pack_code}
use Rattle.packing.specs.Packing.{packing}
use Rattle.packing.proofs.Clauses.{packed_as}
use Rattle.packing.proofs.pack.Goals as goal

pub returns-clause-packed : goal.returns-clause-packed
unfolding pack_code packing
returns-clause-packed c = packed_as c.args.body.now c.args.message.now c.args.out.now (search rules)
