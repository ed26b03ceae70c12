-- The definitions of this crate.
pub mod TimetableFormat
pub mod WrittenRows
