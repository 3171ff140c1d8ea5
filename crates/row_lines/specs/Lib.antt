-- writing text into a buffer
pub mod Writing
