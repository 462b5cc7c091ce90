pub mod Promise
pub mod Tables
