pub mod Heads
pub mod KindByKind
pub mod Parts
pub mod Depths
pub mod Equal
