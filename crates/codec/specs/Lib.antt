-- what the operations of codes and stacks share
pub mod Shared
-- what the clauses of the operations on codes suppose
pub mod CodeClauses
-- the laws of codes
pub mod CodeLaws
-- what the clauses of the operations on stacks suppose
pub mod StackClauses
-- the laws of stacks
pub mod StackLaws
