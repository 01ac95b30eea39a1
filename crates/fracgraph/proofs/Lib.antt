pub mod WalkLemmas
pub mod LabelLemmas
pub mod RootLemmas
pub mod ClassLemmas
