pub mod Cells
pub mod Facts
pub mod Found
pub mod Looked
pub mod Numbers
pub mod Orders
pub mod Placed
