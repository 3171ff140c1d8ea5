use Rattle.std.proofs.Common.{◌≡◌, ℕ, ◌/◌, ◌<◌}
use Rattle.definitions.specs.Words.{at}
use Rattle.definitions.specs.MessageNumbers.{place_value, number_message}
use Rattle.opening.specs.Viewed.{code}
use Rattle.message_numbers.proofs.Numbered.store_symbols.Given as goal

abbrev pub invariant-loop-i : goal.invariant-loop-i
invariant-loop-i l = record {
  rest : l.rest ≡ l.x / place_value (code l.self.code) l.i;
  done : (k : ℕ) → k < l.i → at l.out k ≡ at (number_message (code l.self.code) l.x) k;
}
