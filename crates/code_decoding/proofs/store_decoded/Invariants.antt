use Rattle.std.proofs.Common.{◌≡◌, ℕ, ◌<◌, length}
use Rattle.definitions.specs.Words.{at, subtract}
use Rattle.candidate_patterns.specs.Candidates.{word_of}
use Rattle.code_decoding.proofs.store_decoded.Given as goal

abbrev pub invariant-loop-i : goal.invariant-loop-i
invariant-loop-i l = (k : ℕ) → k < l.i → at l.out k ≡ at (subtract l.word (word_of (length l.word) l.k)) k
