-- The definitions of this crate.
pub mod Sums
pub mod Prices
pub mod Limits
pub mod Cases
pub mod Bounds
pub mod Steps
