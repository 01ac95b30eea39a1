pub mod Written
pub mod Faithful
pub mod Told
pub mod Lines
pub mod Walks
pub mod Listing
pub mod Reading
