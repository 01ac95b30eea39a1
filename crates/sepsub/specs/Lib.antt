pub mod LeastSets
pub mod Growth
pub mod Grouping
