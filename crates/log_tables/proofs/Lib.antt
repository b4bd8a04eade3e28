pub mod Rows
pub mod Tabled
pub mod Homed
