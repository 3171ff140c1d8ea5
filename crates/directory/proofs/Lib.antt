-- the numbers k to n that a loop over entries still has before it
pub mod Numbers
-- what right contents show: where the entries and the bodies stand
pub mod Contents
