-- the test for a codeword
pub mod Messages
-- planes one after another
pub mod Planes
-- encoding, plane after plane
pub mod Encoding
