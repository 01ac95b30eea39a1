pub mod Growing
pub mod Reports
pub mod Runs
pub mod Turns
pub mod Lengths
pub mod Few
pub mod Holding
pub mod Crossing
