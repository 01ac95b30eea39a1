pub mod Cut
pub mod Combs
pub mod Odds
pub mod Order
