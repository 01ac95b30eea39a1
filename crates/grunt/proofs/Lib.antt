pub mod WalkLemmas
pub mod CutLemmas
pub mod OddLemmas
pub mod ReasonLemmas
pub mod RowLemmas
