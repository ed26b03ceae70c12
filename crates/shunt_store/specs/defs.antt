-- The definitions of this crate.
pub mod Files
pub mod Notes
pub mod Causes
pub mod Errors
pub mod Table
pub mod Pieces
pub mod Parts
pub mod Memory
pub mod Held
pub mod Disk
pub mod Shown
pub mod Sinks
pub mod Sure
pub mod Kept
