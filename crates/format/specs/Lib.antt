pub mod Readers
pub mod Tables
