-- The definitions of this crate.
pub mod Reported
pub mod Upgraded
