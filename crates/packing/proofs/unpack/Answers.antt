use Rattle.std.proofs.Common.{rules}
use Rattle.definitions.specs.PackingOperations.{unpack_code}
use Rattle.packing.specs.Packing.{unpacking}
use Rattle.packing.proofs.Clauses.{unpacked_as}
use Rattle.packing.proofs.unpack.Goals as goal

pub returns-clause-unpacked : goal.returns-clause-unpacked
unfolding unpack_code unpacking
returns-clause-unpacked c = unpacked_as c.args.body.now c.args.bytes.now c.args.out.now c.type_inv.bytes (search rules)
