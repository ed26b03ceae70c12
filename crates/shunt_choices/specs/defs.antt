-- The definitions of this crate.
pub mod EntryRuns
pub mod Paths
pub mod Free
pub mod Choices
pub mod Cursors
