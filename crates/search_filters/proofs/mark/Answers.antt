use Rattle.std.proofs.Common.{◌≡◌, ℕ, ◌+◌, ◌∙◌, refl, arith}
use Rattle.definitions.specs.Words.{at}
use Rattle.search_filters.specs.Filters.{times_of}
use Rattle.search_filters.proofs.Columns.{multiple_more}
use Rattle.search_filters.proofs.Marks.{hash_same, marked_more}
use Rattle.search_filters.proofs.mark.Goals as goal

pub loop-preserved : goal.loop-preserved
loop-preserved c =
    let f = at c.args.column in
    let l = c.loop in
    let next = c.add_entries-y.result in
    let more : (i : ℕ) → at next i ≡ times_of c.args.m f (l.counter + 1) i =
    λ i. multiple_more c.args.m l.counter (f i) (at l.s i) (at next i) (l.invariant.1 i) (c.add_entries-y.ensures.entry i) in
    let marked = marked_more f c.args.m c.args.cell l.counter c.args.last.now l.last l.invariant.2 c.hash.result (c.args.cell + 1) (omega arith) refl
    (c.hash.ensures ∙ hash_same (at next) (times_of c.args.m f (l.counter + 1)) more) in
    (marked.long, more, marked)
