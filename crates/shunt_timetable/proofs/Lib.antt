pub mod Formed
pub mod Lengths
pub mod Parts
pub mod PlacedRuns
pub mod Plain
pub mod RoundTrip
pub mod Tables
