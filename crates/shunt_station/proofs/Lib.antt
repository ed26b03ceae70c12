pub mod Formed
mod Ids
pub mod Lengths
pub mod Plain
pub mod RoundTrip
pub mod Tables
