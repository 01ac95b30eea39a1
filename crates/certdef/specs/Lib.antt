pub mod Items
pub mod Proofs
pub mod Accepted
pub mod Restarts
pub mod Laws
pub mod Tests
pub mod Verdicts
pub mod Bytes
