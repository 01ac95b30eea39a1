pub mod SetLemmas
pub mod PartLemmas
pub mod CombLemmas
pub mod OddLemmas
pub mod OrderLemmas
