-- The definitions of this crate.
pub mod Tables
pub mod Events
pub mod Places
