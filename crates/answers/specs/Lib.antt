-- what the answers of the operations mean in numbers and values
pub mod Answering
