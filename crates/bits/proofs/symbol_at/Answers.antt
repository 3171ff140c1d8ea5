use mathlib.Core.Path.{◌≡◌, ap, ◌∙◌}
use mathlib.Core.List.{List}
use Prim.Native.Nat.{ℕ, ◌+◌, ◌*◌, ◌/◌, ◌%◌, ◌^◌, ◌≤◌}
use native.Mathlib.Nat.{mod-lt}
use native.Mathlib.Omega.{arith}
use Rattle.definitions.specs.Words.{at}
use Rattle.definitions.specs.Packing.{symbol_at}
use Rattle.word_laws.proofs.BitLists.{placed, symbol_in_two}
use Rattle.bits.proofs.symbol_at.Goals as goal

taken :
    (bytes : List ℕ) (bit width : ℕ) {hi lo a b : ℕ}
    → width ≤ 8
    → (hi ≡ at bytes (bit / 8 + 1)) × (hi ≤ 255)
    → (lo ≡ at bytes (bit / 8)) × (lo ≤ 255)
    → a ≡ 2 ^ (bit % 8)
    → b ≡ 2 ^ width
    → (hi * 256 + lo) / a % b ≡ symbol_at bytes bit width
taken bytes bit width {hi} {lo} {a} {b} w (h, h-high) (l, l-high) ea eb =
    let small = mod-lt bit {m = 8} (omega arith) in
    rw (ea, eb, h, l)
    (symbol_in_two bytes (bit / 8) (rw l at l-high) (rw h at h-high) (bit % 8) width (omega arith)
    ∙ ap (λ (k : ℕ). symbol_at bytes k width) (placed bit))

pub returns : goal.returns
returns c = taken c.args.bytes.now c.args.bit c.args.width c.requires c.byte_at.ensures c.byte_at-2.ensures c.power.ensures.0
    c.power-2.ensures.0
