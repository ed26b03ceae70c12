mod Lists
pub mod Steps
mod Ranks
mod Numbers
mod Changes
mod ThreeParts
mod Own
mod Before
mod Insertion
mod Others
mod Places
mod Arrivals
mod Insertions
mod Removals
mod Ids
mod Tracks
mod Whole
mod Gone
