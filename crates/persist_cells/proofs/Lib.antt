pub mod Maps
pub mod Words
pub mod Walks
pub mod Fresh
