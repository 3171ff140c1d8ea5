-- text written into a buffer, piece after piece
pub mod Putting
-- the texts of the lines: how they are put together, and how long they are
pub mod Texts
-- a number below 100 as std writes it
pub mod Decimals
