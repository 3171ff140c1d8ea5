-- permutations: the test is the proposition, each level has exactly one state, and a level and its state lead to each other
pub mod Permutations
-- the Gray level: below 2 ^ k where the state is, and different for different states
pub mod GrayLevels
-- the reversed level, over m bits: below 2 ^ m, and reversed again it is the state
pub mod ReversedLevels
-- the made tables are permutations: the straight one for every q, the Gray and the reversed one for every power of two
pub mod MadeTables
-- the reversed labeling is document 001's Construction 8, "a method for cell-level labeling"
pub mod Construction8
-- applying a label table one way and then the other gives the input back; what making labels gives is a permutation
pub mod Applying
