-- the product of the radices in two parts
pub mod Products
-- what stays below the product while symbols are added up and taken
pub mod Symbols
-- from the operations' equations to what is demanded
pub mod Operations
