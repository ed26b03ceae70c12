-- The definitions of this crate.
pub mod Matched
pub mod Planned
pub mod Improved
pub mod Begun
pub mod Found
