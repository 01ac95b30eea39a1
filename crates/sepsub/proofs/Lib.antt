pub mod SetLemmas
pub mod WeightLemmas
pub mod GrowthLemmas
pub mod LeastLemmas
pub mod UnionLemmas
