-- The definitions of this crate.
pub mod Told
pub mod Occupancy
pub mod Orders
pub mod Parts
pub mod Findings
pub mod Departs
pub mod Pages
pub mod Cells
pub mod RowTexts
pub mod PageTexts
