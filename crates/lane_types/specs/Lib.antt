pub mod Heaps
pub mod Deeds
pub mod Histories
pub mod Faces
pub mod Asks
pub mod May
pub mod LaneSteps
pub mod Seen
