-- an opened code whose messages can be bytes, as the definitions have it
pub mod Viewed
-- the bits that were pulled from a message and stand in no byte yet
pub mod Pulling
-- the operations of a code that opens and can be packed, and what their clauses suppose
pub mod Packing
