use Rattle.std.proofs.Common.{◌≡◌, ℕ, ◌+◌, ◌-◌, ◌*◌, ◌^◌, ◌≤◌, ◌<◌, sym, arith}
use Rattle.std.proofs.Math.Decide.{dec_lt}
use Rattle.std.proofs.Math.Nat.{pow-succ'}
use Rattle.std.proofs.Math.Pow.{pow_mono}
use Rattle.std.proofs.Math.Numerals.{add-one}
use Rattle.definitions.specs.PowersOfTwo.{log2}
use Rattle.word_laws.proofs.PowersOfTwo.{log2-least}
use Rattle.bits.proofs.log2.Goals as goal

-- r is the exponent of the greatest power of two that is below q
exponent : (q r : ℕ) → 2 ^ r ≤ q - 1 → q - 1 < 2 * 2 ^ r → 1 < q → q ≤ 256 → (r + 1 ≡ log2 q) × (r + 1 ≤ 8)
exponent q r above below one high = (sym (log2-least q (r + 1) (λ j h. smaller j (omega arith)) least), bound (dec_lt r 8))
  where
    smaller : (j : ℕ) → j ≤ r → 2 ^ j < q
    smaller j h = let g = pow_mono h in omega arith

    least : q ≤ 2 ^ (r + 1)
    least = rw (add-one r, pow-succ' 2 r) (omega arith)

    bound : Dec (r < 8) → r + 1 ≤ 8
    bound (yes l) = omega arith
    bound (no l) = let g : 2 ^ 8 ≤ 2 ^ r = pow_mono {i = 8} (omega arith) in absurd (omega arith)

pub returns-then-q-le1 : goal.returns-then-q-le1
returns-then-q-le1 c = (sym (log2-least c.args.q 0 (λ j h. absurd (omega arith)) (omega arith)), omega arith)

pub returns : goal.returns
returns c = exponent c.args.q c.ilog2.result c.ilog2.ensures.power_le c.ilog2.ensures.next_power_gt (omega arith) c.requires
