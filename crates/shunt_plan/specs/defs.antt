-- The definitions of this crate.
pub mod BlockRecords
pub mod PlanFormat
pub mod PinsFormat
pub mod Plans
pub mod PlanRows
pub mod PinsRows
pub mod Edits
pub mod WrittenEdits
