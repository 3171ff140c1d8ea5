use Rattle.std.proofs.Common.{sym, ap, subst}
use Rattle.definitions.specs.Images as images
use Rattle.directory.specs.Entries.{InImage}
use Rattle.image.proofs.Checked.{row_of}
use Rattle.row_reading.proofs.Row.reference.Goals as goal

pub entry_at-requires : goal.entry_at-requires
entry_at-requires c = (row_of c.args.self.now.image.bytes.now c.args.self.now.image.checked c.args.self.now.number c.args.self.now.row).in_image.entry

pub returns-clause-in_image : goal.returns-clause-in_image
returns-clause-in_image c =
    let x = c.args.self.now.image.bytes.now in
    let row = row_of x c.args.self.now.image.checked c.args.self.now.number c.args.self.now.row in
    (subst (InImage x) (ap (λ (u : images.Entry). u.reference) (sym c.entry_at.ensures.0)) row.reference_in_image, row.in_image)
