-- The definitions of this crate.
pub mod Polish
pub mod Conditions
pub mod Yards
pub mod WalkStates
pub mod Judges
pub mod Steady
pub mod Roots
pub mod SearchStates
pub mod Endings
pub mod Finding
