pub mod Queries
pub mod Promise
pub mod Search
