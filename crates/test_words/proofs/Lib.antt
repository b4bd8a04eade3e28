pub mod Others
pub mod Owned
