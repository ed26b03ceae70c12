-- The definitions of this crate.
pub mod Tried
pub mod Rehearsed
