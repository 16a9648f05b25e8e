pub mod Chaining
pub mod Following
pub mod Lawful
pub mod Lending
pub mod Lining
pub mod Spreads
