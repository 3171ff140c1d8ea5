use Rattle.std.proofs.Common.{rules}
use Rattle.candidate_patterns.proofs.Fits.{above-past, above_at}
use Rattle.candidate_patterns.proofs.is_above.Goals as goal

pub returns-then-word-i : goal.returns-then-word-i
returns-then-word-i c = above-past c.args.word.now c.args.k c.args.i c.if-word-i.true

pub returns : goal.returns
returns c = above_at c.args.word.now c.args.k c.args.i (search rules) _ _ c.from.ensures c.magnitude_at.ensures
