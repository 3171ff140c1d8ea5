use Rattle.std.proofs.Common.{◌∙◌}
use Rattle.opening.specs.Viewed.{code}
use Rattle.packing.proofs.Stored.{unpacked}
use Rattle.packing.proofs.Packing.store_symbols.Goals as goal

pub returns : goal.returns
returns c =
    let p = c.args.self.now in
    c.take_symbols.ensures ∙ unpacked (code p.code) p.layout p.cells.0 p.widths c.args.bytes.now
