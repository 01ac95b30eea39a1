pub mod Growing
pub mod Resumed
pub mod Told
