pub mod Records
pub mod Refusals
