pub mod Residues
pub mod Conversions
pub mod Division
pub mod Answers
pub mod Products
