pub mod Lists
pub mod Runs
pub mod Fated
pub mod Picked
pub mod Soundly
pub mod Redoing
pub mod Summing
pub mod Gathering
pub mod Whole
mod Examples
