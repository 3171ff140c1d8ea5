use Rattle.std.proofs.Common.{ℕ, ◌+◌, ◌%◌, ap, ◌∙◌, arith}
use Rattle.definitions.specs.Words.{at}
use Rattle.opening.specs.Viewed.{code}
use Rattle.word_laws.proofs.Cells.{each_at}
use Rattle.acceptance.proofs.Raising.{all_raised, columns_below}
use Rattle.acceptance.proofs.columns.Columns.raise.Goals as goal

pub add_entries-requires : goal.add_entries-requires
add_entries-requires c =
    let columns = c.args.self.now in (
      omega arith,
      (
        omega arith,
        λ k h. each_at _ c.args.s.now c.requires.2 k (omega (arith, c.requires.1)),
        λ k h. rw (columns.entry c.args.cell k c.requires.0) (columns_below columns.code c.args.cell k),
      ),
    )

pub returns : goal.returns
returns c =
    let columns = c.args.self.now in
    all_raised (code columns.code) c.args.cell c.args.s.now c.add_entries.result c.add_entries.ensures.long
    (λ k h. c.add_entries.ensures.entry k ∙ ap (λ (v : ℕ). (at c.args.s.now k + v) % columns.code.m) (columns.entry c.args.cell k c.requires.0))
    (omega arith)
