pub mod Grouping
pub mod Fates
pub mod Analyses
pub mod Conditions
pub mod Changes
pub mod Needs
pub mod Works
