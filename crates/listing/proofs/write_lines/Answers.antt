use Rattle.std.proofs.Common.{arith}
use Rattle.std.proofs.lemmas.Grind.{common_steps}
use Rattle.listing.proofs.AllLines.{is_given, text_first}
use Rattle.listing.proofs.write_lines.Goals as goal

pub unwrap-length-requires : goal.unwrap-length-requires
unwrap-length-requires g c =
    grind (arith, common_steps, is_given c.args.image.now _ (omega arith) c.list.result c.list.new.out c.list.ensures.result)

pub returns : goal.returns
returns g c =
    grind (
      arith,
      common_steps,
      is_given c.args.image.now _ (omega arith) c.list.result c.list.new.out c.list.ensures.result,
      text_first c.args.image.now _ (omega arith) c.list.result c.list.new.out c.list.ensures.result,
      c.unwrap-length.ensures,
      c.write_all.ensures.bytes,
    )
