-- The definitions of this crate.
pub mod Members
pub mod Below
