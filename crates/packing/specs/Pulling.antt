-- Making bytes: the bits that were pulled from a message and stand in no byte yet.
use Rattle.std.specs.Prelude.{◌≡◌, ◌⊎◌, ℕ, ◌+◌, ◌-◌, ◌≤◌}
use Rattle.definitions.specs.Words.{at, sum_to}
use Rattle.definitions.specs.PowersOfTwo.{from_bits}
use Rattle.definitions.specs.Packing.{bits_of}
use Rattle.bit_reader.specs.Taking.{width_in}
use Rattle.packing.specs.declared.pulled.Pulled.{Pulled}
use Rattle.packing.specs.declared.pulled.Symbols.{Symbols}

-- where the bits that were pulled begin among all of the message's
abbrev pub first : Symbols → Pulled → ℕ
first m x = sum_to x.cells (width_in m.layout) - x.bits

-- what was pulled of a message
pub record Pulling (m : Symbols) (x : Pulled) : Type 0 where
  pub cells : x.cells ≤ m.layout.n
  pub bits : x.bits ≤ sum_to x.cells (width_in m.layout)
  pub value : x.value ≡ from_bits x.bits (λ k. at (bits_of (width_in m.layout) m.message.now m.layout.n) (first m x + k))

-- a byte's bits are all there, or there are no more
abbrev pub Full : Symbols → Pulled → Type 0
Full m x = (8 ≤ x.bits) ⊎ (x.cells ≡ m.layout.n)
