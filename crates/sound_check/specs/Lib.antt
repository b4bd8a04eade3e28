pub mod Faulty
pub mod Walks
pub mod Rules
pub mod Rows
pub mod Logs
pub mod Barring
