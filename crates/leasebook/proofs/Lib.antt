pub mod LogLemmas
pub mod HolderLemmas
pub mod KeptLemmas
