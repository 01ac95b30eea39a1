pub mod MarkLemmas
pub mod WeightLemmas
pub mod ToothLemmas
pub mod MadeLemmas
