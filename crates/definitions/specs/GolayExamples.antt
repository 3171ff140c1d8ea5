-- A table of examples of decoding without a description, of the 23-cell Golay code, under the law of examples a to l. The definition searches
-- its 2,048 patterns: no table of patterns is at hand here.
use Rattle.std.specs.Prelude.{List, [], ◌∷◌, ◌++◌}
use Rattle.definitions.specs.Examples.{Example, decodes_golay, zeros, back, declined}

unfoldable pub golay_words : List Example
golay_words =
    -- no, one and three risen cells; then a word that its one pattern is above: cells that it raises were read at 0
    decodes_golay 8 (zeros 23) (back 0 (zeros 23))
    ∷ decodes_golay 8 (zeros 22 ++ 1 ∷ []) (back 1 (zeros 23))
    ∷ decodes_golay 64 (1 ∷ 1 ∷ (zeros 20 ++ 1 ∷ [])) (back 3 (zeros 23))
    ∷ decodes_golay 2 (1 ∷ 1 ∷ 1 ∷ 1 ∷ zeros 19) (declined 11 23)
    -- 2 for an odd number of levels and for 66, before 8; 8 before 10; 10
    ∷ decodes_golay 7 (zeros 22) (declined 2 22)
    ∷ decodes_golay 66 (zeros 22) (declined 2 22)
    ∷ decodes_golay 8 (9 ∷ zeros 21) (declined 8 22)
    ∷ decodes_golay 8 (8 ∷ zeros 22) (declined 10 23)
    ∷ []
