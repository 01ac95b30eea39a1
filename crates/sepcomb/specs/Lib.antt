pub mod Pairs
pub mod Growth
pub mod Combs
