pub mod Views
pub mod Seats
pub mod Moves
pub mod Calls
pub mod Passes
pub mod Runs
pub mod Steps
