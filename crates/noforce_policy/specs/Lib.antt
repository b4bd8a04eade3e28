pub mod Plans
pub mod Laws
pub mod Backed
pub mod BackedLaws
