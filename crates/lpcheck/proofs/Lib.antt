mod Products
pub mod Bounds
mod CellLemmas
mod Sums
mod Changes
mod BestSteps
mod Sweeps
mod CodeLemmas
