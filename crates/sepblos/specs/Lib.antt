pub mod Violated
pub mod Made
pub mod Blossoms
