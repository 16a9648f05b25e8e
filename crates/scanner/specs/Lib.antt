pub mod Laws
pub mod Rewriting
