pub mod PairLemmas
pub mod PathLemmas
pub mod CombLemmas
