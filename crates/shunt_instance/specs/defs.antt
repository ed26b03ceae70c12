-- The definitions of this crate.
pub mod Words
pub mod Wellformed
pub mod Instance
pub mod Matching
pub mod Tables
