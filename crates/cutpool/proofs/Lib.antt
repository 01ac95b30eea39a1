pub mod CrossingLemmas
pub mod RowLemmas
pub mod PoolLemmas
pub mod SeatLemmas
