-- The definitions of this crate.
pub mod Shares
pub mod Assignments
pub mod Around
pub mod Tables
pub mod Pairs
pub mod Tree
pub mod Weighed
pub mod Ways
pub mod Longer
pub mod Refits
pub mod Asks
pub mod Raises
pub mod Offers
