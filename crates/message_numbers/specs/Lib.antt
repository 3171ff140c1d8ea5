-- what the clauses of both operations suppose
pub mod Numbering
