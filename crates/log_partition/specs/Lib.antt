pub mod Views
pub mod Merging
pub mod Marks
pub mod Used
pub mod TableRegion
