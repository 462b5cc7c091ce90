pub mod Meaning
pub mod Overflows
pub mod Answers
pub mod Corresponds
