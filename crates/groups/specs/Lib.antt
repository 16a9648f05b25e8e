pub mod Captures
pub mod Marks
