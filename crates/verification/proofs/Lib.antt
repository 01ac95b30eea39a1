pub mod Tells
pub mod Torn
pub mod Refusing
mod Judged
mod Ends
pub mod Outcomes
