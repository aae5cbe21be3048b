-- Any run of calls on a sheet ("The sheet and its changes"): what it leaves, and what holds after it; an entry with its ends said
-- otherwise (T-02); and a report as it was before machinery rooms (T-06). No code cites these: they are what the theorems of proofs/ say.
-- Read these files from top to bottom.
pub mod Ends
pub mod Run
pub mod Resumable
pub mod Holds
pub mod AsBefore
