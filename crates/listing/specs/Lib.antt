-- What `sheetlist` prints, as document 01 has it (under "Figures to meet"). Read these files from top to bottom; Handed is
-- what the functions inside the crate hand one another.
pub mod Text
pub mod Lines
pub mod Listing
pub mod Handed
