pub mod Program
pub mod Says
pub mod Laws
pub mod Found
