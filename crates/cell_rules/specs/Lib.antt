pub mod Contexts
pub mod PlainContexts
pub mod InOrder
pub mod Gives
