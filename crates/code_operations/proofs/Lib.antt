-- the cells of the codeword of a message
pub mod Encoded
