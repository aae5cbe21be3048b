-- Spaces in order of entry, sums over them and their enclosure, as document 01 has them ("Spaces", "Gross and net"). A sheet's spaces
-- are a list in order of entry. Read these files from top to bottom; Handed is what the functions inside the crate hand one another.
pub mod Space
pub mod Row
pub mod Enclosure
pub mod Around
pub mod Handed
