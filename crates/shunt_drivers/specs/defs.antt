-- The definitions of this crate.
pub mod SharedMoves
pub mod CrewFormat
pub mod RosterFormat
pub mod RosterRows
pub mod Spans
pub mod Dealt
pub mod Shared
pub mod RosterFaults
