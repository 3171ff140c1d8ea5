-- from the opened description to its bytes
pub mod Opens
-- how many patterns a decoding tried
pub mod Tries
