-- the word that a number of 23 bits stands for
pub mod BitWords
-- the table's rule, computed once over all its entries; the code is accepted
pub mod Rule
-- sixteen cells as the lanes of a vector
pub mod Lanes
-- the columns, and the index of a word's syndrome
pub mod Index
