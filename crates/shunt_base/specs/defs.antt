-- The definitions of this crate.
pub mod Spelling
pub mod Keys
pub mod Listed
pub mod Sides
