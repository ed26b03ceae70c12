mod Certified
pub mod Sought
