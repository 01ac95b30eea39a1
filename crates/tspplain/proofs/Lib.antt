pub mod Steps
pub mod SearchLemmas
pub mod BitLemmas
pub mod CrossingLemmas
pub mod PathLemmas
pub mod CutLemmas
