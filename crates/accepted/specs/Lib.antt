pub mod Child
pub mod Mention
