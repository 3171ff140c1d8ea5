use Rattle.std.proofs.Common.{sym, ◌∙◌}
use Rattle.opening.specs.Viewed.{code}
use Rattle.candidate_patterns.specs.Candidates.{test_for}
use Rattle.search.proofs.Steps.{done_hit, done_miss}
use Rattle.search.proofs.test_pattern.Goals as goal

pub returns-then-passes : goal.returns-then-passes
returns-then-passes c =
    let (reached, none) = c.requires.reached in
    done_hit (code c.args.a.now.code) c.args.k.risen c.args.k.left c.args.k.cell none reached.cells reached.chosen (test_for c.args.a.now)
    c.args.k.tried (sym c.if-passes.true ∙ c.passes.ensures)

pub returns : goal.returns
returns c =
    let (reached, none) = c.requires.reached in
    done_miss (code c.args.a.now.code) c.args.k.risen c.args.k.left c.args.k.cell none reached.cells reached.chosen (test_for c.args.a.now)
    c.args.k.tried (sym c.if-passes.false ∙ c.passes.ensures)
