pub mod Lines
pub mod Messages
pub mod Frames
pub mod Replies
pub mod Tapes
pub mod Turns
