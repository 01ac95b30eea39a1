pub mod LastLine
pub mod Desks
pub mod Rows
pub mod Explaining
