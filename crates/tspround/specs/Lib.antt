pub mod Splits
pub mod Alone
pub mod Laws
pub mod Rounds
