mod Points
pub mod ByIds
pub mod Made
pub mod Edited
pub mod Exchanges
pub mod KeptBeside
pub mod Departures
pub mod Counts
pub mod Places
pub mod Chains
pub mod Ready
pub mod Walked
pub mod Filled
pub mod Refusals
