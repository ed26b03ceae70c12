-- The definitions of this crate.
pub mod Orders
pub mod SheetFormat
pub mod SheetRows
pub mod Tracks
pub mod FollowedOrders
