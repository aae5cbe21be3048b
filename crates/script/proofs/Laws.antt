-- Laws of the definitions in specs/, that the functions' proofs and the programs' cite.
pub mod Laid
pub mod Parts
pub mod Numbers
pub mod Measures
pub mod Hex
pub mod Calls
pub mod Lines
