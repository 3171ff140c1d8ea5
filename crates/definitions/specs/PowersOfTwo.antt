-- Powers of two, and the bits of a number.
use Rattle.std.specs.Prelude.{◌≡◌, Bool, cond, ℕ, ◌*◌, ◌/◌, ◌%◌, ◌^◌, eqb, ltb}
use Rattle.definitions.specs.Words.{sum_to}

abbrev pub PowerOfTwo : ℕ → Type 0
PowerOfTwo q = (k : ℕ) × (q ≡ 2 ^ k)

-- how many powers of two are below q: k for q = 2 ^ k, and 0 for q = 1
unfoldable pub log2 : ℕ → ℕ
log2 q = sum_to q (λ k. cond (ltb (2 ^ k) q) 1 0)

-- a power of two, as a test
unfoldable pub is_power_of_two : ℕ → Bool
is_power_of_two q = eqb (2 ^ log2 q) q

-- bit j of s, the bit of value 2 ^ j
abbrev pub bit : ℕ → ℕ → ℕ
bit s j = s / 2 ^ j % 2

-- the number of w bits whose bit of value 2 ^ j is f j
abbrev pub from_bits : ℕ → (ℕ → ℕ) → ℕ
from_bits w f = sum_to w (λ j. f j * 2 ^ j)
