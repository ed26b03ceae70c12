-- The definitions of this crate.
pub mod Audited
pub mod Checked
pub mod Replayed
pub mod Pinned
pub mod Pins
