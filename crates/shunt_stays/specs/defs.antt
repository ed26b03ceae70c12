-- The definitions of this crate.
pub mod Events
pub mod Run
pub mod Crossings
