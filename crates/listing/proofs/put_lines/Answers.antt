use Rattle.std.proofs.Common.{◌∙◌, ap}
use Rattle.definitions.specs.Images.{entry_numbers}
use Rattle.definitions.specs.CartridgeLists.{row_lines}
use Rattle.row_lines.proofs.Putting.{adds_as}
use Rattle.listing.proofs.AllLines.{passed_lines, refused_line}
use Rattle.listing.proofs.put_lines.Goals as goal

pub returns-in-Ok : goal.returns-in-Ok
returns-in-Ok c =
    adds_as (ap (λ x. row_lines x (entry_numbers x)) c.in-Ok.ensures.same ∙ passed_lines c.args.image.now c.in-Ok.ensures.answer) c.put_rows.ensures

pub returns-in-Err : goal.returns-in-Err
returns-in-Err c = adds_as (refused_line c.args.image.now c.in-Err.why c.in-Err.ensures.answer) c.refused_image.ensures
