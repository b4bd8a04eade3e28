pub mod Deeds
pub mod Small
pub mod Keeping
