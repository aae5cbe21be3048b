-- What the file's definitions mean: 17's position; the last sheet behind any bytes; written, then read; read, then written; a day's sheets;
-- moves.
-- Read from top to bottom.
pub mod Numbers
pub mod Fields
pub mod Forms
pub mod Faults
pub mod LastSheet
pub mod Records
pub mod Resumed
pub mod Fitting
pub mod Lost
pub mod Writing
pub mod WrittenRead
pub mod ReadWritten
pub mod Day
pub mod Moving
pub mod Example
