pub mod PlanEvents
pub mod ClosingWords
pub mod ClosedStates
pub mod ClosingImages
pub mod ClearingStates
pub mod ClosedBuckets
pub mod RemovalStates
pub mod PartPlans
