pub mod Recovered
pub mod Reading
pub mod Stages
pub mod LoserPass
pub mod Going
pub mod Plans
pub mod Refusals
pub mod Recovery
