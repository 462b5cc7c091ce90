pub mod SheetTables
pub mod CallOrder
pub mod FormalSteps
pub mod NodeSteps
pub mod Promises
pub mod Examples
