pub mod InTurn
pub mod Refusals
pub mod Examples
