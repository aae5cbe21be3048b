-- Laws of the definitions in specs/, that the functions' proofs and the floors above cite.
pub mod Tests
pub mod Refusals
pub mod Products
pub mod Lists
pub mod Rounding
pub mod Signed
pub mod Parts
pub mod Multipliers
pub mod Ranges
pub mod Volumes
pub mod Offsets
pub mod Roundings
pub mod Ends
pub mod Zones
pub mod Sections
pub mod Tanks
