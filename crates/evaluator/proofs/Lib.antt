pub mod Sound
pub mod Monotone
pub mod Complete
pub mod Unique
pub mod Own
pub mod SelfCall
