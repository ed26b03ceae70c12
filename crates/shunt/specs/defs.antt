-- The definitions of this crate.
pub mod Calls
pub mod Commands
pub mod Words
pub mod Replies
pub mod Ends
