-- what decoding gives
pub mod Counts
