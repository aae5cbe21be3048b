-- Laws of the definitions in specs/, that the functions' proofs and the theorems cite.
pub mod Stores
pub mod Handed
pub mod Numbers
pub mod Fields
pub mod Forms
pub mod Record
pub mod Trailer
pub mod Writing
pub mod Reading
pub mod Moving
