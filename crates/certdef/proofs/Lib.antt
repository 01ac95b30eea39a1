pub mod Depths
pub mod Restarts
