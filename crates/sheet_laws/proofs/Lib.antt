-- The starred figures, any run of calls, reports without machinery rooms, and the ends of a U. Read from top to bottom.
pub mod Answered
pub mod PutIn
pub mod Figures
pub mod Undoable
pub mod History
pub mod Runs
pub mod Changes
pub mod Resumable
pub mod Accepted
pub mod AnyRun
pub mod AsBefore
pub mod Ends
pub mod EndFigures
