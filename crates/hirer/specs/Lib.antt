pub mod Promise
pub mod Checks
