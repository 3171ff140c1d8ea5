use Rattle.std.proofs.Common.{◌≡◌, take, drop, length}
use Rattle.stack_opening.specs.Viewed.{planes_of}
use Rattle.stack_decoding.proofs.Decoding.{decode_from}
use Rattle.stack_decoding.proofs.decode.Given as goal

abbrev pub invariant-loop-j : goal.invariant-loop-j
invariant-loop-j l = record {
  long : length l.levels ≡ 64;
  done : decode_from l.stack.q 0 (planes_of l.stack) l.word
      ≡ decode_from l.stack.q l.j (drop l.j (planes_of l.stack)) (take l.stack.n l.levels);
}
