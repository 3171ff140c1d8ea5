use Rattle.std.proofs.Common.{ℕ, ◌≡◌, ◌<◌}
use Rattle.definitions.specs.Words.{at}
use Rattle.definitions.specs.Codewords.{syndrome_entry}
use Rattle.opening.specs.Viewed.{code}
use Rattle.opening.proofs.Code.syndrome.Given as goal

abbrev pub invariant-loop-i : goal.invariant-loop-i
invariant-loop-i l = (j : ℕ) → j < l.i → at l.entry-items j ≡ syndrome_entry (code l.self) l.word j
