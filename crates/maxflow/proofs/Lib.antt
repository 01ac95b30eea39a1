pub mod SearchLemmas
pub mod RoomLemmas
pub mod CrossingLemmas
pub mod SideLemmas
pub mod FlowLemmas
pub mod ShrinkLemmas
pub mod NetworkLemmas
mod ShrunkGroups
