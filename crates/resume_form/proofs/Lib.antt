pub mod Places
pub mod Kept
pub mod Taking
pub mod Fitting
pub mod Taken
