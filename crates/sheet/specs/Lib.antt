-- The sheet, its changes and its report, as document 01 has them ("The sheet and its changes", "Gross and net", rows 1 to 14 of
-- "Numbers of refusal"), and as document 02 has them: the ends of a U (T-02), what an entry answers beside its number (T-04, T-07), and the
-- entry of a tank (T-01). Read these files from top to bottom; Handed is what the functions inside the crate ask of a sheet and hand one
-- another.
pub mod Sheet
pub mod Changes
pub mod Ends
pub mod Calls
pub mod Tanks
pub mod Resume
pub mod Handed
