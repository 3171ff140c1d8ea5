-- what the numbers that stand for the answer of reading a row entry are
pub mod RowNumbers
