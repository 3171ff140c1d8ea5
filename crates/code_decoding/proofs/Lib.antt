-- decoding with the pattern that the search found
pub mod Decoding
