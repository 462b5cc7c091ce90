pub mod Keys
pub mod Classes
pub mod Chains
pub mod Places
