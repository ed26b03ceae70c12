-- The definitions of this crate.
pub mod StatedStations
pub mod WrittenRows
