pub mod SameNodes
pub mod Depths
