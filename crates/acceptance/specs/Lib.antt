-- the syndromes of a code's patterns, in the order in which the patterns are listed
pub mod Listing
-- the key of a syndrome, and the keys of the syndromes listed so far
pub mod Keys
-- digital search trees of keys: a slot holds 0 or the number, from 1, of a key
pub mod Tree
