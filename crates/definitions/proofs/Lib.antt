-- what the tests of the definitions show: each is the proposition beside it
pub mod Tests
-- what operations with an input and an output buffer begin with: the refusals of the description, then 8
pub mod Beginning
-- document 01's examples hold, and further ones: one test that is computed over a table, and one law that turns it into the equations
pub mod Examples
-- the description of the 23-cell Golay code, written out
pub mod GolayDescription
-- within reach, at document 01's examples
pub mod ReachExamples
