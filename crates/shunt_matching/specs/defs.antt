-- The definitions of this crate.
pub mod Counts
pub mod Shortages
pub mod Nights
