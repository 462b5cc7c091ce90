pub mod Promise
pub mod Sizes
pub mod Order
pub mod Writing
