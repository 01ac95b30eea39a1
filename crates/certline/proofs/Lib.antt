pub mod Numbers
pub mod Lines
pub mod Runs
pub mod Signed
pub mod Forms
