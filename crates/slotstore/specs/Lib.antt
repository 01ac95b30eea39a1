pub mod Slot
pub mod Store
pub mod Crashing
pub mod Loads
pub mod Standing
pub mod Writing
pub mod Runs
