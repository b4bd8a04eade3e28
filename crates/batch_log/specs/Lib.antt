pub mod ChosenSlots
pub mod FreeBuckets
pub mod Plans
pub mod Buckets
pub mod States
pub mod Groups
pub mod TestRegion
