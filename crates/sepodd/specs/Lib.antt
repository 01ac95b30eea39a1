pub mod Folding
pub mod Odd
pub mod Sides
pub mod Cuts
