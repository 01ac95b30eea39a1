pub mod Listed
pub mod Duals
pub mod Places
pub mod Followers
pub mod Merging
pub mod Moving
