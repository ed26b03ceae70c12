-- The definitions of this crate.
pub mod Visits
pub mod Moments
pub mod Places
pub mod Offers
pub mod Recounts
