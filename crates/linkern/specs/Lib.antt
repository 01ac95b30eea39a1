pub mod Rests
pub mod Exchanges
