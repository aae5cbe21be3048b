-- Laws of the definitions in specs/, that the functions' proofs and the floors above cite.
pub mod Standings
pub mod Judged
pub mod Records
pub mod Tanks
pub mod Machinery
