-- taking the symbols of a message from bytes, one after another
pub mod Taking
