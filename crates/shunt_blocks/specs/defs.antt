-- The definitions of this crate.
pub mod Shapes
pub mod Ways
pub mod Blocks
pub mod Costs
pub mod Least
pub mod Stays
pub mod Lists
pub mod Pins
pub mod Polished
pub mod v1
