pub mod ByCounts
pub mod Lateness
pub mod Firsts
pub mod Alike
pub mod Nights
pub mod Decided
