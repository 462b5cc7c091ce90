pub mod Writing
pub mod Digits
pub mod Lines
pub mod Examples
