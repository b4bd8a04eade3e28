pub mod Rows
pub mod Seen
pub mod Tables
pub mod Homes
pub mod Passed
