pub mod Alls
pub mod Nesting
pub mod Refused
pub mod Turns
pub mod Walks
