-- choices of cells with magnitudes, as words
pub mod Choices
-- syndromes add up cell by cell; what choices leave of a syndrome
pub mod Syndromes
-- what the tests of a pattern show, cell by cell and entry by entry
pub mod Fits
-- the test of a pattern: by what its choices leave of the syndrome, and for a received word the definitions of decoding
pub mod Tests
