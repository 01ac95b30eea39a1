pub mod Text
pub mod Lexer
pub mod Number
pub mod Digits
