pub mod Fits
pub mod Plan
pub mod Migrated
pub mod Laws
pub mod Owed
pub mod Outcomes
