-- columns, an entry of a syndrome by them, and the entries beyond the matrix
pub mod Columns
