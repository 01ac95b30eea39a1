pub mod KeepLemmas
pub mod ListLemmas
pub mod WalkLemmas
pub mod PairLemmas
pub mod FixedWalks
