-- The step of a walk over the risen cells of a pattern, which is a number of 23 bits.
use Rattle.std.specs.Prelude.{◌≡◌, ◌≢◌, ℕ, ◌<◌}
use Rattle.definitions.specs.Words.{at}
use Rattle.definitions.specs.Golay.{word_of_bits}

-- a pattern without one of its risen cells; the others are as they were
pub record WithoutCell (was cell left : ℕ) : Type 0 where
  pub in_word : cell < 23
  pub risen : at (word_of_bits was) cell ≡ 1
  pub gone : at (word_of_bits left) cell ≡ 0
  pub others : (j : ℕ) → j < 23 → j ≢ cell → at (word_of_bits left) j ≡ at (word_of_bits was) j
  pub fewer : left < was
