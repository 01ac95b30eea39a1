pub mod Playing
pub mod LineLemmas
pub mod ReadLemmas
pub mod CutLemmas
pub mod ReportLemmas
pub mod FrameLemmas
pub mod PieceLemmas
