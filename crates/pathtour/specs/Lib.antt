pub mod Neighbours
pub mod Rounds
pub mod UsedTour
pub mod Laws
