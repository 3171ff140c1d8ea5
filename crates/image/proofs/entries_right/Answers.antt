use Rattle.std.proofs.Common.{◌∙◌, sym, arith}
use Rattle.definitions.specs.Words.{at}
use Rattle.directory.proofs.Contents.{contents}
use Rattle.image.proofs.EntryLaws.{first_wrong, next_right}
use Rattle.image.proofs.entries_right.Goals as goal

pub bounds-image-0 : goal.bounds-image-0
bounds-image-0 c = omega (arith, (contents c.args.image.now c.requires).directory)

pub entry_right-requires : goal.entry_right-requires
entry_right-requires c =
    (contents c.args.image.now c.requires).in_image c.loop-k.k c.loop-k.invariant.0 (omega (arith, c.loop-k-test.true, c.from-k-end.ensures))

pub returns-then-not-entry_right : goal.returns-then-not-entry_right
returns-then-not-entry_right c = sym
    (c.loop-k.invariant.1
    ∙ first_wrong c.args.image.now (at c.args.image.now 0) c.loop-k.k (omega (arith, c.loop-k-test.true, c.from-k-end.ensures))
    (sym c.entry_right.ensures ∙ c.if-not-entry_right.true))

pub loop-k-preserved : goal.loop-k-preserved
loop-k-preserved c = (
  omega arith,
  c.loop-k.invariant.1
      ∙ next_right c.args.image.now (at c.args.image.now 0) c.loop-k.k (omega (arith, c.loop-k-test.true, c.from-k-end.ensures))
      (sym c.entry_right.ensures ∙ c.if-not-entry_right.false),
)
