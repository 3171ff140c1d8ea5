-- Words: lists of numbers, one to a cell. A word of levels is document 01's row, and a word of magnitudes its pattern.
-- Cell i + 1 of document 01 is entry i of the list.
use Rattle.std.specs.Prelude.{Bool, true, false, ◌&&◌, cond, List, [], ◌∷◌, ℕ, zero, suc, ◌+◌, ◌-◌, eqb, leb, ltb, get_or}

abbrev pub at : List ℕ → ℕ → ℕ
at x i = get_or x i 0

-- f 0 + f 1 + .. + f (n - 1)
abbrev pub sum_to : ℕ → (ℕ → ℕ) → ℕ
sum_to zero f = 0
sum_to (suc n) f = sum_to n f + f n

-- a, a + 1, .., k numbers in all
abbrev pub up_from : ℕ → ℕ → List ℕ
up_from a zero = []
up_from a (suc k) = a ∷ up_from (suc a) k

-- cell by cell, as far as the shorter word goes
abbrev pub map2 : (ℕ → ℕ → ℕ) → List ℕ → List ℕ → List ℕ
map2 f [] ys = []
map2 f (x ∷ xs) [] = []
map2 f (x ∷ xs) (y ∷ ys) = f x y ∷ map2 f xs ys

-- the subtraction of a pattern from a word that it is nowhere above
abbrev pub subtract : List ℕ → List ℕ → List ℕ
subtract y e = map2 (λ a b. a - b) y e

-- e is as long as y and nowhere above it
abbrev pub nowhere_above : List ℕ → List ℕ → Bool
nowhere_above [] [] = true
nowhere_above [] (y ∷ ys) = false
nowhere_above (e ∷ es) [] = false
nowhere_above (e ∷ es) (y ∷ ys) = leb e y && nowhere_above es ys

abbrev pub same_word : List ℕ → List ℕ → Bool
same_word [] [] = true
same_word [] (y ∷ ys) = false
same_word (x ∷ xs) [] = false
same_word (x ∷ xs) (y ∷ ys) = eqb x y && same_word xs ys

abbrev pub all_below : ℕ → List ℕ → Bool
all_below b [] = true
all_below b (x ∷ xs) = ltb x b && all_below b xs

abbrev pub all_zero : List ℕ → Bool
all_zero [] = true
all_zero (x ∷ xs) = eqb x 0 && all_zero xs

-- the cells that are not 0: of a pattern, document 01's risen cells
abbrev pub weight : List ℕ → ℕ
weight [] = 0
weight (zero ∷ e) = weight e
weight (suc v ∷ e) = suc (weight e)

-- the cells in which two words of one length differ: the Hamming distance
abbrev pub distance : List ℕ → List ℕ → ℕ
distance [] ys = 0
distance (x ∷ xs) [] = 0
distance (x ∷ xs) (y ∷ ys) = cond (eqb x y) 0 1 + distance xs ys

-- P holds of each cell
abbrev pub EachCell : (ℕ → Type 0) → List ℕ → Type 0
EachCell P [] = Unit {0}
EachCell P (x ∷ xs) = P x × EachCell P xs

-- R holds of each cell of one word and that cell of the other; the words are equally long
abbrev pub EachPair : (ℕ → ℕ → Type 0) → List ℕ → List ℕ → Type 0
EachPair R [] [] = Unit {0}
EachPair R [] (y ∷ ys) = ⊥
EachPair R (x ∷ xs) [] = ⊥
EachPair R (x ∷ xs) (y ∷ ys) = R x y × EachPair R xs ys
