pub mod LentCells
pub mod Listed
pub mod Listings
