-- what holds while symbols are taken
pub mod Steps
