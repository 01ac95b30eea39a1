mod Lists
pub mod Transfers
