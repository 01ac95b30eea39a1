pub mod Pool
pub mod PoolInside
pub mod Nears
pub mod Seat
