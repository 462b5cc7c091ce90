pub mod Demands
pub mod InC
pub mod Rows
pub mod Hirer
pub mod DriverView
pub mod TypedSheets
pub mod FoundReadings
pub mod CanonicalSheets
