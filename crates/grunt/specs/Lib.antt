pub mod Missed
pub mod Odds
pub mod Whys
pub mod Rounds
