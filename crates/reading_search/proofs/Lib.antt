pub mod Levels
pub mod Refusals
pub mod Searching
