pub mod Edges
pub mod PathCounts
pub mod LevelLemmas
pub mod RootPaths
