pub mod ContextNames
pub mod Places
