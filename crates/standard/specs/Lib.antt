-- The rules of the Standard system on spaces in order of entry, as document 01 has them ("Standing", "Gross and net", rows 4 to 11, 13
-- and 14 of "Numbers of refusal"), for tanks as T-01 of document 02 has them, and for machinery as T-06 has it. Read these files from
-- top to bottom; Handed is what the functions inside the crate hand one another.
pub mod Standings
pub mod Rules
pub mod Tanks
pub mod Records
pub mod Machinery
pub mod Gross
pub mod Valid
pub mod Handed
