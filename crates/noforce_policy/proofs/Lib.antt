pub mod Courses
pub mod Checkpoints
pub mod Sweeps
pub mod Backed
pub mod BackedImages
pub mod StoredChanges
mod Examples
mod BackedExamples
