pub mod SerialCells
pub mod ListedVisits
pub mod SameEnds
pub mod KeptEnds
pub mod OnlyAlive
