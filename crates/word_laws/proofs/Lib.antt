-- words cell by cell
pub mod Cells
-- sums modulo M
pub mod Remainders
-- the first entry that passes a test, and tests of all entries; lists whose entries are all different
pub mod Lists
-- the list of patterns: exact, once, in document 01's order, P long
pub mod PatternList
-- places in a list: of the first entry that passes a test, and how many entries of an ascending list come before one
pub mod Places
-- the split of the list of patterns at a cell and at a magnitude, for the two that choose them
pub mod PatternSplits
-- subtraction of a pattern, cell by cell
pub mod Subtraction
-- arrays that a loop fills from the front
pub mod Filling
-- numbers in mixed radix: what digits make, and the digits of a number
pub mod MixedRadix
-- powers of two and their exponents
pub mod PowersOfTwo
-- the bits of a number
pub mod Bits
-- lists of bits
pub mod BitLists
