use Rattle.std.proofs.Common.{◌≡◌, drop}
use Rattle.candidate_patterns.specs.Candidates.{magnitude_in, magnitude_at}
use Rattle.candidate_patterns.proofs.magnitude_at.Given as goal

abbrev pub invariant-loop-rise : goal.invariant-loop-rise
invariant-loop-rise l = magnitude_at l.fn.k l.i ≡ magnitude_in (drop l.rise-index l.rise-items) l.i
