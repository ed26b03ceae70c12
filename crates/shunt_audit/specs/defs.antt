-- The definitions of this crate.
pub mod Findings
pub mod Listed
pub mod Plans
pub mod Pins
pub mod v1
