use Rattle.std.proofs.Common.{◌≡◌, ℕ, ◌<◌}
use Rattle.definitions.specs.Words.{at}
use Rattle.definitions.specs.Messages.{message}
use Rattle.opening.specs.Viewed.{code}
use Rattle.code_operations.proofs.store_message.Given as goal

abbrev pub invariant-loop-i : goal.invariant-loop-i
invariant-loop-i l = (k : ℕ) → k < l.i → at l.out k ≡ at (message (code l.code) l.word) k
