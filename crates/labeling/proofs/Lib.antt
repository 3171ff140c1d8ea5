-- the state of a level is the first place at which the level stands
pub mod Searching
-- the loop that marks the level of each state: the states before s are passed
pub mod Marking
-- the m lowest bits of a byte in opposite order are the highest of the byte that has all of them so
pub mod Reversing
-- a made table is a permutation where the test of its length was passed
pub mod Making
-- from the check to the operations
pub mod Applying
