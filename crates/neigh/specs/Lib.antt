pub mod Near
pub mod Keeping
pub mod Walk
