pub mod PathLemmas
pub mod TableLemmas
pub mod BestLemmas
pub mod FitLemmas
