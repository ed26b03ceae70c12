-- The definitions of this crate.
pub mod Svg
pub mod Words
pub mod Told
pub mod Marks
pub mod Rows
pub mod Levels
pub mod Lanes
pub mod Pictures
pub mod BarTexts
pub mod LaneTexts
pub mod PictureTexts
pub mod Layouts
