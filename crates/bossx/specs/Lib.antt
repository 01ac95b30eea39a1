pub mod Books
pub mod Judging
pub mod Steps
pub mod Kept
pub mod Laws
pub mod BossInside
pub mod Answers
