pub mod Views
pub mod Merged
pub mod Marking
pub mod Known
pub mod Small
