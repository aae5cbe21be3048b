-- What the theorems of proofs/ say, beyond the definitions of the crates below. No code cites these. Read these files from top to bottom.
pub mod Reached
pub mod Tests
pub mod Refusals
pub mod Visited
pub mod Figures
pub mod OneAnswer
