pub mod SameKeys
pub mod KeptKeys
pub mod Chains
pub mod NumberedNodes
pub mod Walks
pub mod FirstNodes
pub mod PlacedNodes
