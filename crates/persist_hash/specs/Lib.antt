pub mod Chains
pub mod Calls
pub mod Adding
pub mod Walk
pub mod Reading
pub mod Laws
