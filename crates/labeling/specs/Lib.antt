-- the labelings and their kinds' numbers
pub mod Labelings
