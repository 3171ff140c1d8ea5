-- what the reference of a row names, and what reading a row entry answers
pub mod Rows
-- the first byte of a description that passes its test
pub mod Cells
-- from the equation of reading a row entry to demand 3 on its record and on what the output row holds at exit
pub mod Clauses
