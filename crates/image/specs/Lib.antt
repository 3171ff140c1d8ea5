-- what checking an image answered
pub mod Passed
