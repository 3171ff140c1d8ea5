-- whether an entry is right, by what was read of it
pub mod EntryLaws
-- the check of an image, and what an image that passes it has
pub mod Checked
