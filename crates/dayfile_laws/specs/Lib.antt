-- What the theorems on the day's file say ("The file"). No code cites these: they are what the theorems of proofs/ and of the demands
-- name. Read these files from top to bottom.
pub mod Faults
pub mod Writing
pub mod Reading
pub mod Day
pub mod Moving
