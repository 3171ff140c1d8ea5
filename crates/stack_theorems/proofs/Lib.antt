-- the digits of a level, and words of digits
pub mod Digits
-- what opening a stack shows of its planes; demand 1
pub mod Opened
-- the tests for a codeword and for a message are the propositions
pub mod Codewords
-- decoding plane after plane gives back the codeword within reach
pub mod Decoding
-- the count is at most the sum of the planes' t
pub mod Counts
-- messages and codewords correspond one to one
pub mod Messages
-- the demands, from a description's bytes to the answer and the output buffer
pub mod Demands
-- wrong operations that the demands refuse
pub mod Shams
