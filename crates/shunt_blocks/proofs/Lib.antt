pub mod Held
mod Places
mod Few
pub mod Times
mod Sound
pub mod StaysOf
mod Feasible
mod OpeningCosts
mod Singles
mod Started
mod Matched
mod Agreed
mod Upgrade
mod Leasts
pub mod Shapes
pub mod Made
pub mod UnderWays
