mod Bounds
pub mod Through
