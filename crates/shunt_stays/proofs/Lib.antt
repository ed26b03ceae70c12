pub mod Members
pub mod AscendingLists
pub mod Halves
pub mod Track
pub mod Sides
pub mod Runs
pub mod Blocks
pub mod Tracks
pub mod Fewer
pub mod StandingStays
pub mod Crossings
pub mod OtherIds
pub mod SortedEvents
pub mod Steps
pub mod Ends
mod Examples
pub mod NumberedStays
