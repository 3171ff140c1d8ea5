-- the numbers of a line are small: what is given back has at most 64 cells, and its levels are below 64
pub mod Bounds
-- the loop over entries that writes their lines
pub mod AllLines
