use Rattle.directory.proofs.Contents.{Going}
use Rattle.directory.proofs.bodies_follow.Given as goal

abbrev pub invariant-loop-k : goal.invariant-loop-k
invariant-loop-k l = Going l.image l.n l.place l.k
