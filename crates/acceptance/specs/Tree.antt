-- Digital search trees of keys: a slot holds 0 or the number, from 1, of a key. A key is looked for from its bucket's slot on;
-- from a slot that holds another key, the next bit says which of that key's two slots comes next.
use Rattle.std.specs.Prelude.{◌≡◌, List, ℕ, zero, suc, ◌+◌, ◌*◌, ◌/◌, ◌%◌, ◌≤◌, ◌<◌, cond, eqb}
use Rattle.acceptance.specs.declared.different.Bits.{Bits}
use Rattle.definitions.specs.Words.{at}

-- the slot of a key's bucket. The key's halves are far below 2 ^ 63 and 2 ^ 32: the remainders only say that the sum fits 64 bits.
abbrev pub bucket_of : ℕ → ℕ
bucket_of key = (key % 9223372036854775808 + key / 18446744073709551616 % 4294967296 * 61) % 4093

-- the slot after that of the key numbered j, from 1, by the lowest bit of x
abbrev pub child_of : ℕ → ℕ → ℕ
child_of j x = 4094 + 2 * j + x % 2

-- what is left of a key before the first step: its lower half comes first
abbrev pub bits_of : ℕ → Bits
bits_of key = record { next = key % 18446744073709551616; other = key / 18446744073709551616 }

-- one bit further on: the halves come in turn, until nothing is left of the other
abbrev pub next_bits : Bits → Bits
next_bits b = cond (eqb b.other 0) (record { next = b.next / 2; other = 0 }) (record { next = b.other; other = b.next / 2 })

-- what k steps leave of the key
unfoldable pub bits_after : ℕ → ℕ → Bits
bits_after key zero = bits_of key
bits_after key (suc k) = next_bits (bits_after key k)

-- the slot in which the key is looked for after k steps
unfoldable pub slot_after : List ℕ → ℕ → ℕ → ℕ
slot_after slots key zero = bucket_of key
slot_after slots key (suc k) = child_of (at slots (slot_after slots key k)) (bits_after key k).next

-- slot r is reached by steps from slots that are not empty
pub record Reaches (slots : List ℕ) (key r : ℕ) : Type 0 where
  pub steps : ℕ
  pub there : r ≡ slot_after slots key steps
  pub full : (k : ℕ) → k < steps → at slots (slot_after slots key k) ≡ 0 → ⊥

-- the first n keys stand in slots that they reach, and each step leads to a slot further on
pub record Tree (keys slots : List ℕ) (n : ℕ) : Type 0 where
  pub forward : (s : ℕ) → (at slots s ≡ 0 → ⊥) → (at slots s ≤ n) × (s < 4094 + 2 * at slots s)
  pub placed : (i : ℕ) → i < n → (r : ℕ) × Reaches slots (at keys i) r × (at slots r ≡ i + 1)

-- r is the slot of the key: it is empty exactly when the key is none of the first n
pub record SlotOf (keys slots : List ℕ) (n key r : ℕ) : Type 0 where
  pub within : r < 4096 + 2 * n
  pub reaches : Reaches slots key r
  pub found : (at slots r ≡ 0 → ⊥) → (i : ℕ) × (i < n) × (at keys i ≡ key)
  pub free : at slots r ≡ 0 → (i : ℕ) → i < n → at keys i ≡ key → ⊥
