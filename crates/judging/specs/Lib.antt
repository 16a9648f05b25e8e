pub mod Entries
pub mod Judging
pub mod Ranges
pub mod Recording
pub mod Records
