use Rattle.std.proofs.Common.{◌∙◌, arith}
use Rattle.candidate_patterns.proofs.Fits.{zeros-equal}
use Rattle.candidate_patterns.proofs.is_zero.Goals as goal

pub returns : goal.returns
returns c = c.eq.ensures ∙ zeros-equal 12 c.args.s.now (omega arith)
