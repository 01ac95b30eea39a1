pub mod MarkLemmas
pub mod ListLemmas
pub mod Turns
pub mod WholeTours
pub mod EntryLemmas
pub mod EntrySums
