pub mod Leases
pub mod Log
pub mod TableInside
