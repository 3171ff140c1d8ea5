-- the syndrome is additive, cell by cell, modulo M
pub mod Syndromes
-- the test for a codeword is the proposition; and what is left of it for a word of n levels below q
pub mod Codewords
-- the patterns of a code are those listed, P in all and in document 01's order; and acceptance as computed is acceptance
pub mod Acceptance
-- the demands' predicates from what is shown of codes, and of stacks
pub mod Deciding
-- demand 3 for codes: the distance decides
pub mod Decoding
-- demand 2 for codes: messages and codewords correspond one to one
pub mod Messages
-- how a chain of refusals is passed: each of its tests in turn
pub mod Refusals
-- what opening a description shows of the code
pub mod Opened
-- the demands for codes, from the description's bytes to the answer and the output buffer
pub mod Demands
-- patterns tried: the place of the given pattern
pub mod Tried
-- messages and the bytes that they travel as: one is got back from the other
pub mod Packing
-- messages and their numbers: one is got back from the other
pub mod MessageNumbers
-- a code of which P patterns with different syndromes are known is accepted
pub mod Counting
-- where M divides q, an accepted code's one pattern with the word's syndrome decides
pub mod SyndromeDecoding
-- circular reading and ours: for an accepted code they agree wherever a codeword is within reach, and where they differ ours is 11
pub mod Circular
-- where M divides q: the ceiling asks nothing, and the codes are those of documents 000 and 003
pub mod Divides
-- operations on codes that answer wrongly do not meet the demands
pub mod Shams
-- operations between messages and numbers that answer wrongly do not meet their clauses
pub mod NumberShams
-- operations between messages and bytes that answer wrongly do not meet their clauses
pub mod PackingShams
