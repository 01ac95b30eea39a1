pub mod Listing
pub mod TourLemmas
pub mod DualLemmas
pub mod PathLemmas
pub mod StepLemmas
pub mod MergeLemmas
pub mod Rising
pub mod MovingLemmas
