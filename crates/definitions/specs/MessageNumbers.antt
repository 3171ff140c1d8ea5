-- A code's message as one whole number, in mixed radix: document 02, wish 2. The radix of each cell is packing's.
use Rattle.std.specs.Prelude.{◌≡◌, List, map, ℕ, zero, suc, ◌*◌, ◌/◌, ◌%◌, ◌<◌}
use Rattle.definitions.specs.Words.{at, sum_to, up_from}
use Rattle.definitions.specs.Codes.{Code}
use Rattle.definitions.specs.Messages.{Message}
use Rattle.definitions.specs.Packing.{radix}

-- f 0 * f 1 * .. * f (n - 1)
abbrev pub product_to : ℕ → (ℕ → ℕ) → ℕ
product_to zero f = 1
product_to (suc n) f = product_to n f * f n

-- the place value of the symbol of cell i + 1: "the first symbol is the least significant, each cell has its own radix"
abbrev pub place_value : Code → ℕ → ℕ
place_value p i = product_to i (radix p)

-- "the product of the radices"
unfoldable pub radix_product : Code → ℕ
radix_product p = product_to p.n (radix p)

-- the number of a message
unfoldable pub message_number : Code → List ℕ → ℕ
message_number p s = sum_to p.n (λ i. at s i * place_value p i)

-- the message of a number
unfoldable pub number_message : Code → ℕ → List ℕ
number_message p x = map (λ i. x / place_value p i % radix p i) (up_from 0 p.n)

-- numbers below the product and messages correspond one to one
pub record NumbersOneToOne (p : Code) : Type 0 where
  pub is_message : (x : ℕ) → x < radix_product p → Message p (number_message p x)
  pub back : (x : ℕ) → x < radix_product p → message_number p (number_message p x) ≡ x
  pub below : (s : List ℕ) → Message p s → message_number p s < radix_product p
  pub again : (s : List ℕ) → Message p s → number_message p (message_number p s) ≡ s
