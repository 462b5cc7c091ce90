pub mod FormalTable
pub mod NodeTable
pub mod Packed
pub mod States
pub mod GoingOn
pub mod Promise
