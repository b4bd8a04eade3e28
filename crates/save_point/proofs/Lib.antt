pub mod Numbers
pub mod OwnPoints
pub mod UndoCourse
pub mod UndoImages
pub mod UndoEnds
pub mod Newest
pub mod UndoSteps
pub mod ClosedSteps
pub mod UndoRecords
mod Examples
pub mod Fronts
pub mod Savepoints
