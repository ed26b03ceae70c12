-- The definitions of this crate.
pub mod Holdings
pub mod Levels
pub mod Kept
pub mod Sound
