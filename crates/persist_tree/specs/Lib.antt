pub mod Trees
pub mod Changes
pub mod Below
pub mod Calls
pub mod Located
pub mod Laws
pub mod Sound
