-- what the distance decides of a record it decides of its numbers
pub mod Deciding
