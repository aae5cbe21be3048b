-- Laws of the definitions in specs/, that the functions' proofs and the theorems cite.
pub mod Decimal
pub mod Puts
pub mod Lines
pub mod Listing
