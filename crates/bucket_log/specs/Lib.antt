pub mod Words
pub mod Plans
pub mod Places
pub mod Appends
pub mod States
pub mod PartWords
pub mod Reads
pub mod Scans
