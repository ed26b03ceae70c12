-- The definitions of this crate.
pub mod Draws
pub mod Made
