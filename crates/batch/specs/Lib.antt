pub mod Promise
pub mod Rows
