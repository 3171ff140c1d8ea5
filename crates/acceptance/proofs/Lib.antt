-- raising a cell: what it does to each entry of a syndrome
pub mod Raising
-- storing keys in the buffer, one list of syndromes after another
pub mod Storing
-- how the listing goes one cell, or one magnitude, further: the laws of the split, for syndromes
pub mod Steps
-- the loops over cells and magnitudes: in each turn a part of the list is stored, and the rest is what the later turns list
pub mod Choices
-- the patterns of one weight after another
pub mod Weights
-- sums over the cells of a word
pub mod Sums
-- what is reached by a pattern is its syndrome, and two keys tell syndromes apart
pub mod Syndromes
-- lists whose entries are all different
pub mod Distinct
-- digital search trees: the walk from a pair's bucket to its slot, and the tree with one pair more
pub mod Tree
-- the stored keys are all different exactly when the code is accepted
pub mod Accepted
