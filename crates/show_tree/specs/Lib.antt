pub mod Lines
pub mod Documents
