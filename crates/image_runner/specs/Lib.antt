pub mod Maps
pub mod Reader
pub mod Cells
pub mod Tells
pub mod Ends
pub mod Migrations
