pub mod Chained
pub mod Drawn
mod Hours
mod Laid
mod LanesMade
mod Marked
pub mod Ranges
mod Seated
mod Widest
mod Within
