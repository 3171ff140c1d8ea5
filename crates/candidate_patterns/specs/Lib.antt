-- one error pattern of a search: its risen cells as a word, what they leave of a syndrome, and the test of a pattern
pub mod Candidates
