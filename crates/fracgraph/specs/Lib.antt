pub mod Components
pub mod Labels
