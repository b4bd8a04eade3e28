pub mod ClosingAll
pub mod Edges
pub mod Groups
pub mod Reached
