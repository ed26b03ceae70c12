-- The definitions of this crate.
pub mod Texts
pub mod FindingTexts
pub mod TurnTexts
pub mod VerdictTexts
pub mod MoveTexts
pub mod ZonesTexts
pub mod DriversTexts
pub mod DelaysTexts
pub mod ComparisonTexts
pub mod PlanTexts
pub mod ResumedTexts
pub mod SheetTexts
pub mod JsonTexts
