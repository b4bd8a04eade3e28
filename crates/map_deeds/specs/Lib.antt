pub mod Maps
pub mod Meanings
pub mod Depending
pub mod Printed
pub mod HistoryLaw
pub mod FreshMaps
pub mod Reports
pub mod Weights
