pub mod Sizes
pub mod Rows
pub mod Answers
pub mod Rests
pub mod Cells
pub mod Codes
pub mod Steps
pub mod Added
