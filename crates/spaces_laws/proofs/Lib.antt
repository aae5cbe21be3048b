-- Whole sheets: what a valid sheet is like, what keeps it valid, the enclosing spaces visited, and that no volume is taken off twice; the
-- deduction for machinery and the report; spaces as their records give them back, and tanks. Read from top to bottom.
pub mod Tests
pub mod Refusals
pub mod Lists
pub mod Walk
pub mod Each
pub mod Entry
pub mod Valid
pub mod Levels
pub mod Visited
pub mod Withdraw
pub mod Mark
pub mod Enclosed
pub mod Places
pub mod Order
pub mod Standings
pub mod Twice
pub mod Machinery
pub mod MachineryFigures
pub mod Report
pub mod Recorded
pub mod Tanks
