-- what the numbers that stand for an answer are
pub mod Numbers
