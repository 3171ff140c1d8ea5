use Rattle.std.proofs.Common.{ℕ}
use Rattle.opening.specs.Viewed.{code}
use Rattle.search_filters.specs.Filters.{Misses}
use Rattle.search_filters.proofs.Columns.{up_to_more}
use Rattle.search_filters.proofs.cannot_end_at.Goals as goal

pub loop-mag-preserved : goal.loop-mag-preserved
loop-mag-preserved c =
    up_to_more (λ (g : ℕ). Misses (code c.args.code.now) c.args.cell g c.args.rest.now) c.loop-mag.mag c.loop-mag.invariant
    (c.is_multiple.ensures c.if-is_multiple.false)
