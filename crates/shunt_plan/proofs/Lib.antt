pub mod RoundTrip
pub mod Formed
pub mod Fronts
pub mod Parts
pub mod PinsBack
pub mod Plain
pub mod Lengths
pub mod Tables
