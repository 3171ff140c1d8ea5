-- The key of a syndrome, and the keys of the syndromes listed so far.
use Rattle.std.specs.Prelude.{◌≡◌, List, [], ◌∷◌, ◌++◌, map, ℕ}
use Rattle.std.specs.Int.{from_le_bytes, w128}
use Rattle.arrayvec.specs.ArrayVec.{ArrayVec}

-- the number that has a syndrome's 16 entries as its bytes
abbrev pub key_of : List ℕ → ℕ
key_of s = from_le_bytes w128 s

-- the keys of the syndromes ss are listed after those before
abbrev pub Stored : List (List ℕ) → ArrayVec ℕ → ArrayVec ℕ → Type 0
Stored ss old new = new.items ≡ old.items ++ map key_of ss

-- a key as a word
abbrev pub word_of : ℕ → List ℕ
word_of key = key ∷ []
