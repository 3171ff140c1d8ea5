-- the numbers of a refusal
pub mod Refused
-- what holds of an answer holds of the one that its numbers stand for
pub mod Standing
