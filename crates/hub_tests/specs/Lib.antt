pub mod Counter
pub mod Counters
pub mod Laws
