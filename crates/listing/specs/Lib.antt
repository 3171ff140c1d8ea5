-- what the functions that write lines ensure
pub mod Lines
