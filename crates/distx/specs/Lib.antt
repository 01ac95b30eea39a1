pub mod Kind
pub mod Laws
