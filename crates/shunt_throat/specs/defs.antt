-- The definitions of this crate.
pub mod Passed
pub mod Shared
pub mod Rostered
