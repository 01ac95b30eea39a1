pub mod ShapeLemmas
pub mod CutLemmas
pub mod CoreLemmas
pub mod PriceLemmas
pub mod HoldingLemmas
pub mod MissLemmas
pub mod ClosingLemmas
pub mod NodeLemmas
