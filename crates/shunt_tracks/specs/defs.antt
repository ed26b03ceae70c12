-- The definitions of this crate.
pub mod Dues
pub mod Blocks
pub mod Answer
pub mod Sequences
