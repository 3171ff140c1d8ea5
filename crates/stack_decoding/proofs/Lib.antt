-- plane after plane
pub mod Decoding
