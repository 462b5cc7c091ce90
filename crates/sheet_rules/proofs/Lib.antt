pub mod SheetTables
pub mod SeenTables
pub mod Ruling
pub mod TreeSteps
pub mod PassedRules
pub mod ClauseTable
pub mod PatternSteps
