-- The definitions of this crate.
pub mod Moves
pub mod Passed
pub mod Meetings
pub mod Loads
pub mod ZonesFormat
pub mod ZonesRows
