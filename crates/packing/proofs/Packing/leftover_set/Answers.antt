use Rattle.opening.specs.Viewed.{code}
use Rattle.packing.proofs.Sizes.{leftover_number}
use Rattle.packing.proofs.Packing.leftover_set.Goals as goal

pub returns : goal.returns
returns c = leftover_number (code c.args.self.now.code) c.args.bytes.now (rw (← c.bit_count-end.ensures.0, ← c.byte_count.ensures.0) c.symbol_at.ensures)
