-- the number of patterns, term by term
pub mod Counts
