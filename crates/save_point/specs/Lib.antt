pub mod Plans
pub mod Conditions
pub mod Images
pub mod Ends
pub mod Newest
