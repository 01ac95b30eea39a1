pub mod Efforts
pub mod Splits
pub mod Hints
pub mod Works
