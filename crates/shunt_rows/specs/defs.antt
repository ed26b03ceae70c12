-- The definitions of this crate.
pub mod Records
pub mod Rows
pub mod Written
pub mod Faults
pub mod Checks
pub mod Fields
pub mod Formats
pub mod FirstFault
pub mod Given
pub mod InputTexts
