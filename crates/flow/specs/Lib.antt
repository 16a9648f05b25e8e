pub mod Places
pub mod Reasons
pub mod Scalars
pub mod Flow
pub mod Content
pub mod Steps
pub mod Reads
pub mod Stops
