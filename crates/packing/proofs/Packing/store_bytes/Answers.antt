use Rattle.std.proofs.Common.{◌∙◌}
use Rattle.opening.specs.Viewed.{code}
use Rattle.code_theorems.proofs.Messages.{fits}
use Rattle.packing.proofs.Stored.{symbol_fits, packed}
use Rattle.packing.proofs.Packing.store_bytes.Goals as goal

pub invariant_of-symbols-clause-below : goal.invariant_of-symbols-clause-below
invariant_of-symbols-clause-below c =
    let p = c.args.self.now in
    symbol_fits (code p.code) p.layout p.cells.0 p.widths p.powers c.args.message.now
    (fits (code p.code) c.args.message.now c.requires.fits.0 c.requires.fits.1)

pub returns : goal.returns
returns c =
    let p = c.args.self.now in
    c.store.ensures ∙ packed (code p.code) p.layout p.cells.0 p.widths c.args.message.now c.requires.room
