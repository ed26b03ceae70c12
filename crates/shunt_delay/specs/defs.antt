-- The definitions of this crate.
pub mod Late
pub mod Delays
pub mod Kept
