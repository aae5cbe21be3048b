-- The day's file as document 01 has it ("The file", and rows 13 to 18 of "Numbers of refusal"), and T-05 of document 02: its two forms, moves
-- and 20. Read these files from top to bottom; Handed is what the functions inside the crate hand one another.
pub mod Numbers
pub mod Fields
pub mod Forms
pub mod Record
pub mod Trailer
pub mod Writing
pub mod Reading
pub mod Day
pub mod Moving
pub mod Handed
