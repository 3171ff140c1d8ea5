use Rattle.opening.specs.Viewed.{code}
use Rattle.acceptance.specs.Keys.{Stored}
use Rattle.acceptance.proofs.Weights.{lighter}
use Rattle.acceptance.proofs.listing.list_patterns.Given as goal

-- the keys of the patterns of fewer than w risen cells are stored
abbrev pub invariant-loop-w : goal.invariant-loop-w
invariant-loop-w l = Stored (lighter (code l.columns.code) l.w) l.initial.listed l.listed
