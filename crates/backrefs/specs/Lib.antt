pub mod Backrefs
pub mod Pairs
pub mod Parts
