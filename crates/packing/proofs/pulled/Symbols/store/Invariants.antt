use Rattle.std.proofs.Common.{◌≡◌, ℕ, ◌<◌, length}
use Rattle.definitions.specs.Words.{at}
use Rattle.packing.specs.Pulling.{Pulling}
use Rattle.packing.proofs.Pulling.{bytes_made, Placed}
use Rattle.packing.proofs.pulled.Symbols.store.Given as goal

abbrev pub invariant-loop-byte : goal.invariant-loop-byte
invariant-loop-byte l = record {
  stored : (k : ℕ) → k < l.byte-index → at l.out k ≡ at (bytes_made l.self (length l.initial.out)) k;
  pulled : Pulling l.self l.pulled;
  placed : Placed l.self l.byte-index l.pulled;
}
