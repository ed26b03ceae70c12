pub mod Sums
mod Parts
mod Owned
mod Filled
mod Plans
mod Rises
mod Priced
mod Ones
mod Clashes
mod Sizes
mod Listed
mod Existence
mod Least
mod Bounded
mod Examples
mod Nests
pub mod Best
mod Keyed
mod Pairs
mod Spanned
mod Tied
mod Numbered
mod Around
mod Beside
mod Contexts
pub mod MaybeGains
pub mod Steps
pub mod Small
