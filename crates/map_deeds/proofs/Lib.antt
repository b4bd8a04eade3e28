pub mod Restricting
pub mod Untouched
pub mod Naming
pub mod Carrying
pub mod Reporting
pub mod Beginning
mod Examples
pub mod DeedExamples
