pub mod Places
pub mod Entries
pub mod Walks
