use Rattle.std.proofs.Common.{◌≡◌, ◌*◌}
use Rattle.definitions.specs.Words.{at, sum_to}
use Rattle.definitions.specs.MessageNumbers.{place_value}
use Rattle.opening.specs.Viewed.{code}
use Rattle.message_numbers.proofs.Numbered.number_of.Given as goal

abbrev pub invariant-loop-i : goal.invariant-loop-i
invariant-loop-i l = record {
  sum : l.x ≡ sum_to l.i (λ j. at l.message j * place_value (code l.self.code) j);
  place_value : l.place_value ≡ place_value (code l.self.code) l.i;
}
