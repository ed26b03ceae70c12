mod Counted
pub mod Formed
pub mod InWords
mod Least
pub mod Ordered
mod Parts
pub mod Plain
pub mod RisingMinutes
pub mod RoundTrip
mod Same
pub mod Tables
