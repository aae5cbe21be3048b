-- What the theorems of proofs/ say of zones and tanks (T-01) beyond `measure`'s own statements. No code cites these.
pub mod Zones
pub mod Tanks
