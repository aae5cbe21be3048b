-- What the theorems of proofs/ say of spaces in words of their own, beside the definitions that compute. No code cites these. Read these
-- files from top to bottom.
pub mod Standings
pub mod Above
pub mod Levels
pub mod Accepted
pub mod Tanks
pub mod Sound
pub mod Machinery
pub mod Gross
pub mod Changes
