-- The definitions of this crate.
pub mod Delayed
pub mod Ordered
pub mod Followed
pub mod Compared
pub mod Resumed
