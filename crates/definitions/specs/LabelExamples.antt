-- A table of examples of labels, under the law of document 01's.
use Rattle.std.specs.Prelude.{List, [], ◌∷◌, ℕ}
use Rattle.definitions.specs.Words.{up_from}
use Rattle.definitions.specs.LabelOperations.{make_labels, to_levels, to_states}
use Rattle.definitions.specs.Examples.{Example, writes, lent, back, declined}

-- a permutation of three levels
unfoldable pub three : List ℕ
three = 2 ∷ 0 ∷ 1 ∷ []

unfoldable pub labels : List Example
labels =
    -- document 001, figure 2 (a), (b), (c)
    writes (make_labels 1 (lent 16)) (back tt (up_from 0 16))
    ∷ writes (make_labels 2 (lent 16)) (back tt (0 ∷ 1 ∷ 3 ∷ 2 ∷ 6 ∷ 7 ∷ 5 ∷ 4 ∷ 12 ∷ 13 ∷ 15 ∷ 14 ∷ 10 ∷ 11 ∷ 9 ∷ 8 ∷ []))
    ∷ writes (make_labels 3 (lent 16)) (back tt (0 ∷ 8 ∷ 4 ∷ 12 ∷ 2 ∷ 10 ∷ 6 ∷ 14 ∷ 1 ∷ 9 ∷ 5 ∷ 13 ∷ 3 ∷ 11 ∷ 7 ∷ 15 ∷ []))
    -- the smallest table, and a straight one whose length is no power of two
    ∷ writes (make_labels 3 (lent 2)) (back tt (0 ∷ 1 ∷ []))
    ∷ writes (make_labels 1 (lent 6)) (back tt (up_from 0 6))
    -- 2, before 14; then 14
    ∷ writes (make_labels 1 (lent 1)) (declined 2 1)
    ∷ writes (make_labels 1 (lent 65)) (declined 2 65)
    ∷ writes (make_labels 0 (lent 6)) (declined 2 6)
    ∷ writes (make_labels 4 (lent 6)) (declined 2 6)
    ∷ writes (make_labels 2 (lent 6)) (declined 14 6)
    ∷ writes (make_labels 3 (lent 6)) (declined 14 6)
    -- a table applied, and back
    ∷ writes (to_levels three (0 ∷ 1 ∷ 2 ∷ 2 ∷ []) (lent 4)) (back tt (2 ∷ 0 ∷ 1 ∷ 1 ∷ []))
    ∷ writes (to_states three (2 ∷ 0 ∷ 1 ∷ 1 ∷ []) (lent 4)) (back tt (0 ∷ 1 ∷ 2 ∷ 2 ∷ []))
    ∷ writes (to_levels three [] []) (back tt [])
    -- 2, 13, 8, 10, each before the next
    ∷ writes (to_levels (0 ∷ []) (1 ∷ []) (lent 2)) (declined 2 2)
    ∷ writes (to_levels (up_from 0 65) (65 ∷ []) (lent 2)) (declined 2 2)
    ∷ writes (to_levels (0 ∷ 2 ∷ 2 ∷ []) (3 ∷ []) (lent 2)) (declined 13 2)
    ∷ writes (to_levels (0 ∷ 3 ∷ 1 ∷ []) (3 ∷ []) (lent 2)) (declined 13 2)
    ∷ writes (to_levels three (3 ∷ []) (lent 2)) (declined 8 2)
    ∷ writes (to_levels three (3 ∷ []) (lent 1)) (declined 10 1)
    ∷ writes (to_states three (0 ∷ 3 ∷ []) (lent 2)) (declined 10 2)
    ∷ []
