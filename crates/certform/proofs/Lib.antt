mod Numbering
mod Sorting
mod Again
mod LineLemmas
mod Walking
mod Spelling
mod Written
mod Fitting
mod Whole
mod Bodies
mod Permuting
mod Loops
pub mod PlaceLemmas
