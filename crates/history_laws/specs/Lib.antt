pub mod Histories
pub mod Stands
pub mod UnderWay
pub mod Choices
pub mod Moments
pub mod Laws
pub mod Growing
pub mod Checkpoints
