pub mod PartNumbers
mod Examples
mod FirstAppend
mod SecondAppend
pub mod Passing
pub mod PassingOrder
pub mod PassingStands
pub mod PassingNeeds
pub mod PassingLaw
pub mod RecordAppends
pub mod RoomBound
pub mod Groups
pub mod Records
pub mod Changes
pub mod UndoneEnds
pub mod OwnRecords
pub mod Going
pub mod Beside
pub mod AbortCourse
pub mod CommitCourse
pub mod WriteCourse
pub mod HeapOwn
mod HeapGoing
mod HeapWrites
mod HeapCommits
mod HeapAborts
mod HeapRegions
mod HeapClears
pub mod HeapUpdates
mod HeapImages
mod HeapExamples
