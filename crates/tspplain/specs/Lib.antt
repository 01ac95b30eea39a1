pub mod Values
pub mod Trees
pub mod Searches
pub mod Bits
pub mod Crossings
