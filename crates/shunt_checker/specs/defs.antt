-- The definitions of this crate.
pub mod PlanFaults
pub mod Asked
pub mod NodeFaults
pub mod Verdicts
pub mod Firsts
pub mod Searches
pub mod Ways
pub mod Lights
pub mod Stops
pub mod Breaks
pub mod Children
pub mod Lows
pub mod Misses
pub mod Tallies
pub mod NodeSteps
pub mod Walks
