-- Laws of the definitions in specs/, that the functions' proofs and the floors above cite.
pub mod Row
pub mod Changes
pub mod Sheet
pub mod Calls
pub mod Ends
pub mod Report
