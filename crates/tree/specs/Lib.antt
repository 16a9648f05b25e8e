pub mod Checked
pub mod Limits
pub mod Meaning
pub mod Questions
pub mod Values
pub mod Words
