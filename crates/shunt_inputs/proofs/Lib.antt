pub mod SeenFiles
pub mod HeardSteps
pub mod Stated
pub mod Held
pub mod NightTexts
pub mod Heard
pub mod FirstFiles
