pub mod Walked
pub mod Rows
