pub mod Places
pub mod Parts
pub mod Empty
pub mod Cells
mod Examples
pub mod Headers
pub mod FiniteMaps
pub mod EmptyMaps
pub mod CellsLaws
