pub mod TypeSteps
pub mod Typing
