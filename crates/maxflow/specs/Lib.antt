pub mod Crossings
pub mod Flows
pub mod Edges
pub mod Searches
pub mod NetworkInside
pub mod Shrinking
pub mod Merging
