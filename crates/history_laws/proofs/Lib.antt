pub mod Folding
pub mod PartWords
pub mod Owning
pub mod Conditions
pub mod Choosing
pub mod AppendsBeside
pub mod Stepping
pub mod ImagesStand
pub mod Growing
pub mod Headers
pub mod Checkpoints
mod Examples
