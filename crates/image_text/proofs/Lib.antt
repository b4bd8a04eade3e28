pub mod Splitting
pub mod Numbers
pub mod Steps
pub mod Saying
pub mod Naming
pub mod Parsed
pub mod Writing
pub mod Digits
pub mod Feeds
pub mod Entries
pub mod RoundTrip
pub mod Meanings
mod Examples
pub mod Bounds
