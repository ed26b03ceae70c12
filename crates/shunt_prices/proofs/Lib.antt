mod Parts
mod Moments
mod Capacity
pub mod Signed
mod Longer
mod Room
mod RisingBounds
pub mod Sizes
mod Whole
pub mod Dual
mod Ends
mod Examples
mod Open
mod Raised
mod Stepped
pub mod Counts
pub mod LeastBelow
