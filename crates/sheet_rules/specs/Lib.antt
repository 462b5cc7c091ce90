pub mod Nodes
pub mod Seen
pub mod Clauses
