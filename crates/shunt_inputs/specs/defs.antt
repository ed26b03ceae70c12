-- The definitions of this crate.
pub mod Names
pub mod Inputs
pub mod Views
pub mod Replies
pub mod Halts
pub mod Writes
pub mod ReadFiles
