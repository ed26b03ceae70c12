mod Ends
mod SortedDues
pub mod Turns
