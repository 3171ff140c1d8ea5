-- nothing is below 0
pub mod Below
-- the entries of an array past its end
pub mod Entries
