-- The definitions of this crate.
pub mod Pieces
pub mod Scenes
pub mod Least
pub mod Prospects
pub mod Besides
