-- The definitions of this crate.
pub mod States
pub mod Edits
pub mod Benches
pub mod Exchanges
pub mod Tallies
pub mod Kept
