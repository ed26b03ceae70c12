-- The definitions of this crate.
pub mod Stacks
pub mod Fillings
pub mod Cases
pub mod Bounds
pub mod Spans
pub mod Numbers
pub mod Choices
