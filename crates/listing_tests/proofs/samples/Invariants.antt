use Rattle.std.proofs.Common.{length}
use Rattle.listing_tests.proofs.samples.Given as goal

abbrev pub decreases-loop-next : goal.decreases-loop-next
decreases-loop-next g l = length l.rest
