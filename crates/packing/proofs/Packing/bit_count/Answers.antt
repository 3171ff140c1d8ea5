use Rattle.std.proofs.Common.{rules, arith}
use Rattle.opening.specs.Viewed.{code}
use Rattle.packing.proofs.Sizes.{bits_sum}
use Rattle.packing.proofs.Packing.bit_count.Goals as goal

pub returns : goal.returns
returns c =
    let p = c.args.self.now in
    (bits_sum p.layout (code p.code) p.cells.0 p.widths (omega arith), search rules)
