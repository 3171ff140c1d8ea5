-- what follows a refusal, and what it leaves
pub mod Refusals
