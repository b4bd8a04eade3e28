pub mod Written
mod LogEventExamples
pub mod AllLatches
pub mod TakenTxns
pub mod TakingsBack
pub mod LeftOpen
pub mod ClosedTxns
pub mod Closings
pub mod StayFit
pub mod PartEnds
pub mod Flying
pub mod Finding
pub mod Records
pub mod Moments
pub mod Starting
pub mod Lanes
pub mod SameRecords
pub mod Beginning
pub mod Reading
pub mod Storing
pub mod LogEvents
pub mod GoingOn
pub mod Gaining
pub mod FitsBeside
pub mod Settling
pub mod Settles
pub mod Asking
pub mod Dropping
pub mod Taking
mod Examples
pub mod Needs
pub mod TakenOut
pub mod Rooms
pub mod Reserved
pub mod NeedsRest
mod RoomExamples
