-- what a row's record means in numbers and values
pub mod Records
-- what opening a row entry answers
pub mod Opening
-- what the clauses of reading a row entry suppose, and what they ask of its answer
pub mod RowClauses
