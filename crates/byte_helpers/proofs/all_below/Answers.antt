use Rattle.std.proofs.Common.{◌∙◌}
use Rattle.byte_helpers.proofs.Below.{below-zero}
use Rattle.byte_helpers.proofs.all_below.Goals as goal

pub returns-then-bound-eq0 : goal.returns-then-bound-eq0
returns-then-bound-eq0 c = rw c.if-bound-eq0.true (c.is_empty.ensures ∙ below-zero c.args.s.now)
