-- how many bits the symbols have, and whether one after them is set
pub mod Sizes
-- how bytes are made: a symbol is pulled, a byte is full, the next byte begins
pub mod Pulling
-- what the operations write
pub mod Stored
-- from the operations' equations to their clauses
pub mod Clauses
