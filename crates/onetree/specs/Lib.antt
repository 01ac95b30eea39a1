pub mod OneTrees
pub mod Laws
pub mod Growing
pub mod Ascents
pub mod Certificates
pub mod Told
pub mod Readings
pub mod Answers
