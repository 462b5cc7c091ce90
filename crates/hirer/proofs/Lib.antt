pub mod Closing
pub mod Refusals
