pub mod Walking
pub mod Rows
mod Running
