pub mod Chain
pub mod Spelled
mod Ways
pub mod Formed
mod Timed
mod Counted
pub mod Paired
pub mod Sized
pub mod Built
