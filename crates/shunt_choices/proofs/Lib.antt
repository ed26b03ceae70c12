pub mod Given
pub mod Masks
pub mod Trails
pub mod SortedBlocks
mod Rests
mod Runs
mod Progress
mod Ordered
mod Chosen
mod Offered
pub mod AtPaths
pub mod Grown
pub mod Partial
pub mod Counted
pub mod Begins
pub mod Pairwise
