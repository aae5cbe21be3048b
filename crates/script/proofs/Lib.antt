pub mod laws
pub mod Meaning
