use Rattle.std.proofs.Common.{◌≡◌, ℕ, ◌<◌}
use Rattle.definitions.specs.Words.{at, sum_to}
use Rattle.definitions.specs.Packing.{symbol_at}
use Rattle.bit_reader.specs.Taking.{width_in}
use Rattle.bit_reader.proofs.Layout.take_symbols.Given as goal

-- the symbols of the cells before are taken, and the reader's next bit is the first of the next symbol
abbrev pub invariant-loop-i : goal.invariant-loop-i
invariant-loop-i l = record {
  bytes : l.reader.src.now ≡ l.bytes;
  next : l.reader.bit ≡ sum_to l.i (width_in l.self);
  done : (j : ℕ) → j < l.i → at l.out j ≡ symbol_at l.bytes (sum_to j (width_in l.self)) (width_in l.self j);
}
