pub mod Asked
pub mod Opened
pub mod Seconds
pub mod Unrested
