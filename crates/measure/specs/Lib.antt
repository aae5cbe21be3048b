-- The measuring rules of document 01, in its order, the roundings of T-04, the ends of T-02 and the tanks of T-01: read these files from top
-- to bottom. Handed alone is none of them: it has what the functions inside the crate ask of each other.
pub mod Kinds
pub mod Rounding
pub mod Parts
pub mod Thirds
pub mod Multipliers
pub mod Zones
pub mod Sections
pub mod Volumes
pub mod Ranges
pub mod Refusals
pub mod Offsets
pub mod Roundings
pub mod Ends
pub mod Tanks
pub mod Allowances
pub mod Handed
