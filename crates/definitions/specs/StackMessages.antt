-- Messages of a stack: plane by plane, n - r digits below c.
use Rattle.std.specs.Prelude.{◌≡◌, Bool, true, ◌&&◌, List, [], ◌∷◌, ◌++◌, ℕ, ◌+◌, ◌*◌, ◌<◌, length, take, drop, replicate}
use Rattle.definitions.specs.Words.{map2, all_below, EachCell}
use Rattle.definitions.specs.Codes.{Code, data_cells}
use Rattle.definitions.specs.Messages.{encode}
use Rattle.definitions.specs.Stacks.{Stack, digits}

abbrev pub message_length : List Code → ℕ
message_length [] = 0
message_length (p ∷ ps) = data_cells p + message_length ps

-- the digits of the first plane are below its c, those after them are the next planes'
abbrev pub DigitsBelow : List Code → List ℕ → Type 0
DigitsBelow [] s = Unit {0}
DigitsBelow (p ∷ ps) s = EachCell (λ v. v < p.M) (take (data_cells p) s) × DigitsBelow ps (drop (data_cells p) s)

pub record StackMessage (S : Stack) (s : List ℕ) : Type 0 where
  pub long : length s ≡ message_length S.planes
  pub below : DigitsBelow S.planes s

-- the bounds as a test
abbrev pub digits_fit : List Code → List ℕ → Bool
digits_fit [] s = true
digits_fit (p ∷ ps) s = all_below p.M (take (data_cells p) s) && digits_fit ps (drop (data_cells p) s)

-- the message that a word carries, from the plane of place value w upward
abbrev pub message_from : ℕ → List Code → List ℕ → List ℕ
message_from w [] c = []
message_from w (p ∷ ps) c = take (data_cells p) (digits w p.M c) ++ message_from (w * p.M) ps c

unfoldable pub stack_message : Stack → List ℕ → List ℕ
stack_message S c = message_from 1 S.planes c

-- a plane's codeword: the symbols of its check cells are below floor(c / c), so they are 0
abbrev pub encode_plane : Code → List ℕ → List ℕ
encode_plane p s = encode p (take (data_cells p) s ++ replicate p.r 0)

-- the levels whose digits, from place value w upward, are the planes' codewords
abbrev pub encode_from : ℕ → ℕ → List Code → List ℕ → List ℕ
encode_from n w [] s = replicate n 0
encode_from n w (p ∷ ps) s = map2 (λ d v. d * w + v) (encode_plane p s) (encode_from n (w * p.M) ps (drop (data_cells p) s))

unfoldable pub encode_word : Stack → List ℕ → List ℕ
encode_word S s = encode_from S.n 1 S.planes s
