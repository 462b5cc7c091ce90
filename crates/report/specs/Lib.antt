pub mod Decimals
pub mod Lines
pub mod Promise
pub mod Writing
