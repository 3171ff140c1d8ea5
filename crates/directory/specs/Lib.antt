-- what the entries of an image mean, and where they and their bodies stand
pub mod Entries
