-- Laws of the definitions in specs/, that the functions' proofs and the floors above cite.
pub mod Cases
pub mod Row
pub mod Words
pub mod Enclosure
pub mod Places
pub mod Below
pub mod Index
pub mod Before
pub mod Around
pub mod Homes
