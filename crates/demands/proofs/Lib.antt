-- The three demands, each a module that begins with the asker's words, and that no promise leaves room for a second answer. Before
-- them: what a sheet is that calls can reach, and how a number is given by a list of tests; behind the first, what an entry answers beside
-- its number. Read from top to bottom.
pub mod Reached
pub mod Tests
pub mod Demand1
pub mod Visited
pub mod Demand2
pub mod Demand3
pub mod NoSecondAnswer
