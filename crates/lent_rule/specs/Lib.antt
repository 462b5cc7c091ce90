pub mod Lent
pub mod Standing
