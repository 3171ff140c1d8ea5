use native.Mathlib.Nat.{div-le_self, le_trans}
use native.Mathlib.Omega.{arith}
use Rattle.opening.proofs.Counts.{next-count, next-most}
use Rattle.opening.proofs.next_term.Goals as goal

pub returns : goal.returns
returns c = (
  next-count _ c.args.n c.args.l c.args.i c.requires.of.0 (omega arith),
  le_trans (div-le_self _ _) (next-most c.args.term c.args.n c.args.l c.args.i (omega arith) (omega arith)),
)
