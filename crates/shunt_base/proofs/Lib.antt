pub mod Decimal
pub mod Minutes
pub mod Ranks
pub mod Sides
pub mod Names
mod Copied
