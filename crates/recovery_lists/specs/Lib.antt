pub mod Repairs
pub mod Lists
pub mod Repairable
pub mod ListRegion
