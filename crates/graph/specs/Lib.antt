pub mod Chains
pub mod Laws
pub mod Lent
pub mod Reached
pub mod Spreading
pub mod Verdict
